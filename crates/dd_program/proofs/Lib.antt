mod Attended
mod Done
