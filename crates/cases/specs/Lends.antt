-- What a case may ask for. Assumes nothing: these are definitions.
use Rattle.std.specs.Prelude.{◌≤◌}
use Rattle.cases.specs.declared.case.Call.{Call}
use Rattle.cases.specs.declared.case.Call.TheVariants.{CheckTerms, CheckLog, Append, Report, Standing}

-- a report is lent no more bytes than there is room for of a page
abbrev pub Lends : Call → Type 0
Lends (Report moment page strike) = page ≤ 65520
Lends (Standing schema key moment) = Unit {0}
Lends CheckTerms = Unit {0}
Lends CheckLog = Unit {0}
Lends Append = Unit {0}
