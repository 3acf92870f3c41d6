-- Meaning: Answer (which text is right for an input). Laws: AnswerLaws (there is one such text).
pub mod Answer
pub mod AnswerLaws
