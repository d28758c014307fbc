pub mod Answers
pub mod NotJudged
