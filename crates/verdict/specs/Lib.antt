-- What the contracts say
pub mod Answers
-- What the loop of the code keeps
pub mod Progress
