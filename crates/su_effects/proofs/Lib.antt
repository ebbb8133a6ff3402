mod Fitting
mod Unchanged
mod PutRows
mod TakenRows
mod Replies
mod Definitions
