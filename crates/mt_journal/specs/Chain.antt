-- The chain of open groups of a log.
use Rattle.std.specs.Prelude.{◌≡◌, ℕ, List, [], ◌∷◌}
use Rattle.mt_journal.specs.Layout.{Area, Range, IsOpen, IsGroupAt}

-- these groups stand one after another, from one place to another
abbrev pub StandGroups : Area → ℕ → List (List Range) → ℕ → Type 0
StandGroups log at [] end = at ≡ end
StandGroups log at (group ∷ groups) end = (next : ℕ) × IsGroupAt log at group next × StandGroups log next groups end

-- The chain from position 0 on is these groups, and the gate behind the last one is not open.
pub record IsChain (log : Area) (groups : List (List Range)) (tail : ℕ) : Type 0 where
  pub groups_stand : StandGroups log 0 groups tail
  pub closed : IsOpen log tail → ⊥

-- the chain does not decode: behind groups that do, a gate is open and no group stands at it
pub record IsDamaged (log : Area) : Type 0 where
  pub groups : List (List Range)
  pub at : ℕ
  pub groups_stand : StandGroups log 0 groups at
  pub gate : IsOpen log at
  pub none : (ranges : List Range) (end : ℕ) → IsGroupAt log at ranges end → ⊥
