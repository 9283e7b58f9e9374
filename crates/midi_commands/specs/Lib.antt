pub mod Command
pub mod Ending
pub mod ExitCode
pub mod LastLine
pub mod Run
pub mod SelfTest
pub mod WholeInput
