pub mod AnswerLaws
pub mod LookLaws
pub mod BytesAnswers
pub mod CallLaws
