-- Proofs over the calls. Laws first, the theorems they serve after them.
pub mod AnswerLaws
pub mod RefusalLaws
pub mod WriteLaws
pub mod AcceptedLaws
pub mod StandingLaws
pub mod Arrival
pub mod PageLaws
pub mod Lasts
pub mod Computes
pub mod Sample
pub mod Readings
pub mod Instance
