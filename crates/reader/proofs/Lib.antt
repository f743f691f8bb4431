pub mod Grammar
pub mod Files
pub mod Places
pub mod Found
