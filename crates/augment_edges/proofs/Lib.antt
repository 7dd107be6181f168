mod EvenLaws
mod RowLaws
mod StarLaws
