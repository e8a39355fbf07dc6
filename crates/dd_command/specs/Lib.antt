pub mod CommandLine
pub mod FillWords
pub mod Program
pub mod ServeWords
