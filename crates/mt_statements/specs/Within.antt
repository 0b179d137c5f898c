-- The numbers of the clauses behind the references, all of which are to be inside 64 bits.
use Rattle.std.specs.Prelude.{All, IfSome}
use Rattle.mt_terms.specs.Inside.{IsCondInside}
use Rattle.mt_statements.specs.declared.clauses.Clauses.{Clauses}
use Rattle.mt_statements.specs.QueryInside.{IsKeyInside, IsNumberInside}

-- those of all clauses
pub record IsClausesInside (clauses : Clauses) : Type 0 where
  pub cond : IfSome clauses.cond IsCondInside
  pub having : IfSome clauses.having IsCondInside
  pub order : All IsKeyInside clauses.order
  pub limit : IfSome clauses.limit IsNumberInside
