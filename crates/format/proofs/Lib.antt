-- Proofs over the format. Laws first, the theorems they serve after them.
pub mod NumberLaws
pub mod ReaderLaws
pub mod GrammarLaws
pub mod LengthLaws
pub mod FieldLaws
pub mod PlaceLaws
pub mod ExprLaws
pub mod KindLaws
pub mod WritingLaws
pub mod RecordLaws
pub mod LogLaws
pub mod WalkLaws
pub mod WrittenLaws
pub mod RowBytesLaws
pub mod Computes
pub mod CaseBytes
pub mod Readings
