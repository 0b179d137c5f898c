-- Slots of which no two say one key.
use Rattle.std.specs.Prelude.{◌≡◌, false, List, [], ◌∷◌, Option, None, Some}
use Rattle.std.specs.declared.cmp.Ordering.{Ordering}
use Rattle.std.specs.Ordering.{eq_by_cmp}

-- no entry, or one with another key
abbrev pub Misses : {K V : Type 0} → (K → K → Ordering) → K → Option (K × V) → Type 0
Misses R key None = Unit {0}
Misses R key (Some e) = eq_by_cmp R key e.0 ≡ false

-- no slot says the key
abbrev pub NoneSays : {S K V : Type 0} → (K → K → Ordering) → (S → Option (K × V)) → K → List S → Type 0
NoneSays R read key [] = Unit {0}
NoneSays R read key (slot ∷ slots) = Misses R key (read slot) × NoneSays R read key slots

-- no slot says the key of the entry
abbrev pub NoneSaysIts : {S K V : Type 0} → (K → K → Ordering) → (S → Option (K × V)) → Option (K × V) → List S → Type 0
NoneSaysIts R read None slots = Unit {0}
NoneSaysIts R read (Some e) slots = NoneSays R read e.0 slots

-- no two slots say one key
abbrev pub AreUnique : {S K V : Type 0} → (K → K → Ordering) → (S → Option (K × V)) → List S → Type 0
AreUnique R read [] = Unit {0}
AreUnique R read (slot ∷ slots) = NoneSaysIts R read (read slot) slots × AreUnique R read slots
