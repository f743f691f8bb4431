-- What the contracts say
pub mod Starts
-- What the loop of the code keeps
pub mod Progress
