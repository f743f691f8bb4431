pub mod LastNode
