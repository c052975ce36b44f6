mod WalkLaws
mod EntryLaws
mod PartLaws
mod FollowLaws
