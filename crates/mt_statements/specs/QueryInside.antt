-- The numbers of a SELECT, all of which are to be inside 64 bits.
use Rattle.std.specs.Prelude.{ℕ, ◌<◌, All, IfSome}
use Rattle.mt_tree.specs.declared.statement.Select.{Select}
use Rattle.mt_tree.specs.declared.statement.Item.{Item}
use Rattle.mt_tree.specs.declared.statement.Ref.{Ref}
use Rattle.mt_tree.specs.declared.statement.OrderKey.{OrderKey}
use Rattle.mt_tree.specs.declared.statement.OrderBy.{OrderBy}
use Rattle.mt_tree.specs.declared.statement.OrderBy.TheVariants.{Name, Position}
use Rattle.mt_reader.specs.Literals.{limit_64}
use Rattle.mt_terms.specs.Inside.{IsExprInside, IsCondInside}

-- a number that is written without a sign
abbrev pub IsNumberInside : ℕ → Type 0
IsNumberInside n = n < limit_64

-- those of an item
abbrev pub IsItemInside : Item → Type 0
IsItemInside item = IsExprInside item.expr

-- those of a reference
abbrev pub IsRefInside : Ref → Type 0
IsRefInside ref = IfSome ref.on IsCondInside

-- a position in ORDER BY
abbrev pub IsByInside : OrderBy → Type 0
IsByInside (Name name) = Unit {0}
IsByInside (Position n) = IsNumberInside n

-- that of a key
abbrev pub IsKeyInside : OrderKey → Type 0
IsKeyInside key = IsByInside key.by

-- those of all parts
pub record IsSelectInside (select : Select) : Type 0 where
  pub items : All IsItemInside select.items
  pub refs : All IsRefInside select.refs
  pub cond : IfSome select.cond IsCondInside
  pub having : IfSome select.having IsCondInside
  pub order : All IsKeyInside select.order
  pub limit : IfSome select.limit IsNumberInside
