mod Caused
mod Written
mod Followed
mod NamesBefore
mod Begun
mod Found
mod OpenedFiles
mod Stood
