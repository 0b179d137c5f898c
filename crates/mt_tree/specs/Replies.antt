-- The bytes of each reply, its last line feed included.
use Rattle.std.specs.Prelude.{ℕ, List, codes}
use Rattle.mt_tree.specs.declared.code.Code.{Code}
use Rattle.mt_tree.specs.declared.code.Code.TheVariants.{LineTooLong, LineNotReadable, UnknownTenant, NotServed, Syntax, UnknownTable, UnknownColumn, AmbiguousName, TypesDoNotFit, Grouping, NumberOutside64Bits, TextTooLong, NumberOutOfRange, NullNotAllowed, DuplicateKey, QuotaFull, RowNumbersUsedUp, NameExists, ColumnNameTaken, UnknownName, Limit, QuotaBelowRows, QuotasTooLarge, FoldNotValid, TableIsMoving, TableIsNotMoving, TooManyChunks, TransactionIsOpen, TransactionAlreadyOpen, NoTransaction}
use Rattle.mt_tree.specs.declared.reply.Reply.{Reply}
use Rattle.mt_tree.specs.declared.reply.Reply.TheVariants.{Text, Refused, Memory}

-- what a refusal prints
unfoldable pub refusal_text : Code → List ℕ
refusal_text LineTooLong = codes "error E01 line too long\n"
refusal_text LineNotReadable = codes "error E02 line not readable\n"
refusal_text UnknownTenant = codes "error E03 unknown tenant\n"
refusal_text NotServed = codes "error E09 not served here\n"
refusal_text Syntax = codes "error E10 syntax\n"
refusal_text UnknownTable = codes "error E11 unknown table\n"
refusal_text UnknownColumn = codes "error E12 unknown column\n"
refusal_text AmbiguousName = codes "error E13 ambiguous name\n"
refusal_text TypesDoNotFit = codes "error E14 types do not fit\n"
refusal_text Grouping = codes "error E15 grouping\n"
refusal_text NumberOutside64Bits = codes "error E16 number outside 64 bits\n"
refusal_text TextTooLong = codes "error E20 text too long\n"
refusal_text NumberOutOfRange = codes "error E21 number out of range\n"
refusal_text NullNotAllowed = codes "error E22 null not allowed\n"
refusal_text DuplicateKey = codes "error E23 duplicate key\n"
refusal_text QuotaFull = codes "error E30 quota full\n"
refusal_text RowNumbersUsedUp = codes "error E31 row numbers used up\n"
refusal_text NameExists = codes "error E40 name exists\n"
refusal_text ColumnNameTaken = codes "error E41 column name taken\n"
refusal_text UnknownName = codes "error E42 unknown name\n"
refusal_text Limit = codes "error E43 limit\n"
refusal_text QuotaBelowRows = codes "error E44 quota below rows kept\n"
refusal_text QuotasTooLarge = codes "error E45 quotas too large\n"
refusal_text FoldNotValid = codes "error E60 fold not valid\n"
refusal_text TableIsMoving = codes "error E61 table is moving\n"
refusal_text TableIsNotMoving = codes "error E62 table is not moving\n"
refusal_text TooManyChunks = codes "error E63 too many chunks\n"
refusal_text TransactionIsOpen = codes "error E65 transaction is open\n"
refusal_text TransactionAlreadyOpen = codes "error E70 transaction already open\n"
refusal_text NoTransaction = codes "error E71 no transaction\n"

-- what a reply prints
abbrev pub reply_bytes : Reply → List ℕ
reply_bytes (Text bytes) = bytes
reply_bytes (Refused code) = refusal_text code
reply_bytes Memory = codes "error E90 no memory\n"
