mod DoneUntil
mod FilledUntil
mod NamedTags
