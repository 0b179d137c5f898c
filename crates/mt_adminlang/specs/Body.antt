-- What stands in the brackets of CREATE TABLE.
use Rattle.std.specs.Prelude.{All}
use Rattle.mt_adminlang.specs.declared.create.TableBody.{TableBody}
use Rattle.mt_adminlang.specs.Inside.{IsDefInside}

-- the sizes of its columns
abbrev pub IsBodyInside : TableBody → Type 0
IsBodyInside body = All IsDefInside body.columns
