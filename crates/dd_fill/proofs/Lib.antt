mod Saying
mod Tables
