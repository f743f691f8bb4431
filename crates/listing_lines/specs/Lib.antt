-- what the contracts say
pub mod Lines
