mod RecordLaws
mod RefusalLaws
mod TurnLaws
