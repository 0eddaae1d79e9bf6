-- What a reader must believe, first layer of three: what terms and records mean. It knows no bytes. The layers above are `format`, how terms,
-- records and rows stand in bytes, and `calls`, what each call comes to. Together the three are called the model.
--
-- Each file names the sections of document 01 that it stands for; the words in brackets at the end of a comment name the place:
--     'Terms and log'         sentence 1 and 2, item 01 to item 08 (items, Terms items), Grammar, Citation, log record; the order of records:
--                             document 02, wish 3
--     'When things happen'    first paragraph (correlation), happenings, bounds, leaf occurs, leaf fails, expressions, stages, limit: its paragraphs, in that order;
--                             count, item 08: document 02, wish 1; wish 4: document 02, wish 4, what comes once
--     'Calls'                 call 1 to call 5, row, calls, last sentence, table N (the line of refusal N), after the table, words of demand 3
pub mod Lists
pub mod Time
pub mod Stages
pub mod NormTypes
pub mod Terms
pub mod Log
pub mod Meaning
pub mod Rows
pub mod Text
