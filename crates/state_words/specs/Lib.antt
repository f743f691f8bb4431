pub mod Width
