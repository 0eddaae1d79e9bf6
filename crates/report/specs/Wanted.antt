-- What is asked for: its terms and record, and the entries and rows of these. Assumes nothing: these are definitions.
use Rattle.std.specs.Prelude.{List}
use Rattle.meaning.specs.declared.Entries.{Entries}
use Rattle.meaning.specs.declared.Row.{Row}
use Rattle.meaning.specs.Terms.{Terms}
use Rattle.meaning.specs.Log.{Record}
use Rattle.format.specs.Fields.{terms_of}
use Rattle.evaluate.specs.Seen.{record_in}
use Rattle.report.specs.Shown.{entries_in, record_rows}
use Rattle.report.specs.declared.asked.Asked.{Asked}

-- the terms under which it is asked
abbrev pub terms_asked : Asked → Terms
terms_asked a = terms_of a.subject.call.now.terms.now

-- the record for which it is asked
abbrev pub record_asked : Asked → Record
record_asked a = record_in a.subject.call.now.terms.now a.subject.call.now.bytes.now a.subject.at

-- the entries of what is asked for (call 5)
abbrev pub entries_asked : Asked → Entries
entries_asked a = entries_in a.subject.call.now.terms.now a.subject.call.now.bytes.now a.subject.at a.schema a.moment

-- the rows of what is asked for (call 4)
abbrev pub rows_asked : Asked → List Row
rows_asked a = record_rows a.subject.call.now.terms.now a.subject.call.now.bytes.now a.schema a.moment a.subject.at
