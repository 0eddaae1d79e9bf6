-- One name that opens every definition of this layer and of the one below: what is closed by computation says `unfolding computes`. Assumes nothing.
use mathlib.Core.Option.{bind}
use Rattle.format.specs.Bytes.{bytes_of, number_of, byte_at, number_at, pieces, written, many, item}
use Rattle.format.specs.Grammar.{size, read_both, read_leaf, read_expr, kinds_limit, schemas_limit, expr_limit, read_clause, read_schema, file_of, breaks_grammar, expr_bytes, schema_bytes, terms_bytes}
use Rattle.format.specs.Fields.{kind_from, norm_type_of, stage_event, event_of, bound_of, happening_of, count_of, leaf_of, neither, leaf_from, expr_from, expr_at, schema_from, terms_from, not_zero, offset_limit, kind_wrong, head_wrong, event_wrong, bound_wrong, happening_wrong, count_wrong, leaf_wrong, schema_wrong, kinds_wrong, field_wrong, cites_from, shares_none, any_event, cites_too_high, citation_wrong, unshared_in, unshared_event, terms_of}
use Rattle.format.specs.Records.{stamp_limit, record_length, stamp_in, read_record, record_from, read_log, records_in, record_bytes, row_length, row_bytes, time_in, log_of, broken_record, not_one_record}
use Rattle.meaning.proofs.Computes as below

-- opens all definitions of specs/, those of the layers below, and those of the library that they use
unfoldable pub computes : Unit {0}
unfolding bind below.computes bytes_of number_of byte_at number_at pieces written many item size read_both read_leaf read_expr kinds_limit schemas_limit expr_limit read_clause read_schema file_of breaks_grammar expr_bytes schema_bytes terms_bytes kind_from norm_type_of stage_event event_of bound_of happening_of count_of leaf_of neither leaf_from expr_from expr_at schema_from terms_from not_zero offset_limit kind_wrong head_wrong event_wrong bound_wrong happening_wrong count_wrong leaf_wrong schema_wrong kinds_wrong field_wrong cites_from shares_none any_event cites_too_high citation_wrong unshared_in unshared_event terms_of stamp_limit record_length stamp_in read_record record_from read_log records_in record_bytes row_length row_bytes time_in log_of broken_record not_one_record
computes = tt
