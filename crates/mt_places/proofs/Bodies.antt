-- The slots of the catalogue that are asked for, by table.
use Rattle.std.proofs.Common.{◌≡◌, ◌≢◌, ℕ, zero, suc, ◌+◌, ◌<◌, ◌≤◌, Bool, true, false, cond, List, [], ◌∷◌, ◌++◌, length, get_or, Option, Some, None, refl, sym, ap, ◌∙◌, arith}
use Rattle.std.specs.Option.{is_some}
use Rattle.std.specs.declared.cmp.Ordering.{Ordering}
use Rattle.std.specs.declared.cmp.Ordering.TheVariants.{Less, Equal, Greater}
use Rattle.std.specs.Ordering.{eq_by_cmp, is_eq, nat_cmp, ordering_then}
use Rattle.std.specs.Cmp.{IsTotalOrder, tied_itself}
use Rattle.std.specs.Cmp.Lexicographic.{slice_cmp, nat_list_cmp_total}
use Rattle.std.proofs.lemmas.Map.Lookups.{exact_bytes}
use Rattle.std.proofs.lemmas.List.{get_or-set_same, get_or-set_other, set-get_or}
use Rattle.std.proofs.Math.ListN.{set}
use Rattle.std.specs.FinMap as finite
use Rattle.std.specs.FinMap.Entries.{find}
use Rattle.mt_physplan.specs.Applied.{body_cmp}
use Rattle.mt_places.specs.Held.{Bodies, all_bodies, all_entries, placing, table_entries}
use Rattle.mt_places.proofs.Asked.{placing_there, placing_nowhere}
use Rattle.std.proofs.lemmas.Cmp.{nat_cmp_total, on_total, then_total}
use Rattle.std.proofs.lemmas.Map.Lookups.{exact_pairs, exact_unsigned}

pub bodies_total : IsTotalOrder body_cmp
bodies_total = then_total (on_total (λ b. b.0) nat_cmp_total) (on_total (λ b. b.1) nat_list_cmp_total)

pub bodies_exact : finite.IsAntisymmetric body_cmp
bodies_exact a b e = exact_pairs nat_cmp (slice_cmp nat_cmp) exact_unsigned exact_bytes a b e

tied : (t n : ℕ) → eq_by_cmp nat_cmp t n ≡ true → t ≡ n
tied t n own = elim (nat_cmp t n) as (λ r. nat_cmp t n ≡ r → is_eq r ≡ true → t ≡ n) [ Less ↦ λ e c. cc | Equal ↦ λ e c. exact_unsigned t n e | Greater ↦ λ e c. cc ] refl own

apart : (t n : ℕ) → eq_by_cmp nat_cmp t n ≡ false → t ≢ n
apart t n other e =
    let same : eq_by_cmp nat_cmp t n ≡ true = ap (λ k. eq_by_cmp nat_cmp k n) e ∙ ap is_eq (tied_itself nat_cmp_total n) in
    let no : false ≡ true = sym other ∙ same in
    cc

-- whether two numbers tie
abbrev ties : ℕ → ℕ → Bool
ties t n = eq_by_cmp nat_cmp t n

ties-itself : (n : ℕ) → ties n n ≡ true
ties-itself n = ap is_eq (tied_itself nat_cmp_total n)

ties-no_other : (t n : ℕ) → t ≢ n → ties t n ≡ false
ties-no_other t n apart = elim (nat_cmp t n) as (λ r. nat_cmp t n ≡ r → is_eq r ≡ false) [ Less ↦ λ e. refl | Equal ↦ λ e. absurd (apart (exact_unsigned t n e)) | Greater ↦ λ e. refl ] refl

-- what the tables with numbers from n on have of a body of table t
abbrev body_at : ℕ → List Bodies → ℕ → List ℕ → Option (Option ℕ)
body_at n [] t b = None
body_at n (m ∷ ms) t b = cond (ties t n) (finite.get m b) (body_at (n + 1) ms t b)

tied_parts : (r s : Ordering) → is_eq (ordering_then r s) ≡ cond (is_eq r) (is_eq s) false
tied_parts Less s = refl
tied_parts Equal s = refl
tied_parts Greater s = refl

-- among the entries of a table stands what it has of its own bodies
find-own : (t n : ℕ) (b : List ℕ) (es : List (List ℕ × Option ℕ)) (rest : List ((ℕ × List ℕ) × Option ℕ)) → ties t n ≡ true
    → find body_cmp (t, b) rest ≡ None → find body_cmp (t, b) (table_entries n es ++ rest) ≡ find (slice_cmp nat_cmp) b es
find-own t n b [] rest own none = none
find-own t n b (e ∷ es) rest own none =
    let tests : eq_by_cmp body_cmp (t, b) (n, e.0) ≡ eq_by_cmp (slice_cmp nat_cmp) b e.0 = tied_parts (nat_cmp t n) (slice_cmp nat_cmp b e.0) ∙ ap (λ c. cond c (is_eq (slice_cmp nat_cmp b e.0)) false) own in
    ap (λ c. cond c (Some e.1) (find body_cmp (t, b) (table_entries n es ++ rest))) tests
    ∙ ap (cond (eq_by_cmp (slice_cmp nat_cmp) b e.0) (Some e.1)) (find-own t n b es rest own none)

-- and nothing of the bodies of others
find-other : (t n : ℕ) (b : List ℕ) (es : List (List ℕ × Option ℕ)) (rest : List ((ℕ × List ℕ) × Option ℕ)) → ties t n ≡ false
    → find body_cmp (t, b) (table_entries n es ++ rest) ≡ find body_cmp (t, b) rest
find-other t n b [] rest other = refl
find-other t n b (e ∷ es) rest other =
    let tests : eq_by_cmp body_cmp (t, b) (n, e.0) ≡ false = tied_parts (nat_cmp t n) (slice_cmp nat_cmp b e.0) ∙ ap (λ c. cond c (is_eq (slice_cmp nat_cmp b e.0)) false) other in
    ap (λ c. cond c (Some e.1) (find body_cmp (t, b) (table_entries n es ++ rest))) tests ∙ find-other t n b es rest other

-- tables with greater numbers have nothing of it
body_at-below : (n : ℕ) (ms : List Bodies) (t : ℕ) (b : List ℕ) → t < n → body_at n ms t b ≡ None
body_at-below n [] t b below = refl
body_at-below n (m ∷ ms) t b below =
    ap (λ c. cond c (finite.get m b) (body_at (n + 1) ms t b)) (ties-no_other t n (λ e. omega arith)) ∙ body_at-below (n + 1) ms t b (omega arith)

find-all : (n : ℕ) (ms : List Bodies) (t : ℕ) (b : List ℕ) → find body_cmp (t, b) (all_entries n ms) ≡ body_at n ms t b
find-all n [] t b = refl
find-all n (m ∷ ms) t b =
    let rest = find-all (n + 1) ms t b in
    elim (ties t n) as (λ c. ties t n ≡ c → find body_cmp (t, b) (table_entries n (finite.entries m) ++ all_entries (n + 1) ms) ≡ cond c (finite.get m b) (body_at (n + 1) ms t b)) [
      | true ↦ λ own.
          let same : t ≡ n = tied t n own in
          let below : t < n + 1 = omega arith in
          find-own t n b (finite.entries m) (all_entries (n + 1) ms) own (rest ∙ body_at-below (n + 1) ms t b below) ∙ sym (finite.get-entries m b)
      | false ↦ λ other. find-other t n b (finite.entries m) (all_entries (n + 1) ms) other ∙ rest
    ] refl

body_at-place : (n : ℕ) (ms : List Bodies) (t : ℕ) (b : List ℕ) → body_at n ms (n + t) b ≡ finite.get (get_or ms t finite.empty) b
body_at-place n [] t b = sym (finite.get-empty (slice_cmp nat_cmp) b)
body_at-place n (m ∷ ms) zero b = ap (λ c. cond c (finite.get m b) (body_at (n + 1) ms (n + 0) b)) (ap (λ k. ties k n) (omega arith) ∙ ties-itself n)
body_at-place n (m ∷ ms) (suc t) b =
    let next : n + suc t ≡ (n + 1) + t = omega arith in
    ap (λ c. cond c (finite.get m b) (body_at (n + 1) ms (n + suc t) b)) (ties-no_other (n + suc t) n (λ e. omega arith))
    ∙ ap (λ k. body_at (n + 1) ms k b) next ∙ body_at-place (n + 1) ms t b

-- what all tables have is what the table of the body has
pub get-all : (ms : List Bodies) (t : ℕ) (b : List ℕ) → finite.get (all_bodies ms) (t, b) ≡ finite.get (get_or ms t finite.empty) b
get-all ms t b = finite.get-from_entries bodies_total (all_entries 0 ms) (t, b) ∙ find-all 0 ms t b ∙ ap (λ k. body_at 0 ms k b) (omega arith) ∙ body_at-place 0 ms t b

-- tables that have the same are one map
pub all-same : (ms ns : List Bodies) → ((t : ℕ) → get_or ns t finite.empty ≡ get_or ms t finite.empty) → all_bodies ns ≡ all_bodies ms
all-same ms ns h = finite.same_map bodies_total bodies_exact _ _ (λ q. get-all ns q.0 q.1 ∙ ap (λ m. finite.get m q.1) (h q.0) ∙ sym (get-all ms q.0 q.1))

-- one more table without bodies
pub all-push : (ms : List Bodies) → all_bodies (ms ++ finite.empty ∷ []) ≡ all_bodies ms
all-push ms = all-same ms (ms ++ finite.empty ∷ []) (λ t. none_behind ms t)
  where
    none_behind : (ms : List Bodies) (t : ℕ) → get_or (ms ++ finite.empty ∷ []) t finite.empty ≡ get_or ms t finite.empty
    none_behind [] zero = refl
    none_behind [] (suc t) = refl
    none_behind (m ∷ ms) zero = refl
    none_behind (m ∷ ms) (suc t) = none_behind ms t

-- one table has one body more
pub all-insert : (ms : List Bodies) (i : ℕ) (b : List ℕ) (position : Option ℕ) → i < length ms
    → all_bodies (set ms i (finite.insert (get_or ms i finite.empty) b position)) ≡ finite.insert (all_bodies ms) (i, b) position
all-insert ms i b position within = finite.same_map bodies_total bodies_exact _ _ (λ q.
    get-all (set ms i (finite.insert (get_or ms i finite.empty) b position)) q.0 q.1 ∙ at q.0 q.1 ∙ sym (finite.get-insert bodies_total (all_bodies ms) (i, b) position q))
  where
    at : (t : ℕ) (c : List ℕ) → finite.get (get_or (set ms i (finite.insert (get_or ms i finite.empty) b position)) t finite.empty) c ≡ cond (eq_by_cmp body_cmp (t, c) (i, b)) (Some position) (finite.get (all_bodies ms) (t, c))
    at t c =
        elim (ties t i) as (λ r. ties t i ≡ r → finite.get (get_or (set ms i (finite.insert (get_or ms i finite.empty) b position)) t finite.empty) c ≡ cond (eq_by_cmp body_cmp (t, c) (i, b)) (Some position) (finite.get (all_bodies ms) (t, c))) [
          | true ↦ λ own.
              let same : t ≡ i = tied t i own in
              let tests : eq_by_cmp body_cmp (t, c) (i, b) ≡ eq_by_cmp (slice_cmp nat_cmp) c b = tied_parts (nat_cmp t i) (slice_cmp nat_cmp c b) ∙ ap (λ r. cond r (is_eq (slice_cmp nat_cmp c b)) false) own in
              ap (λ k. finite.get (get_or (set ms i (finite.insert (get_or ms i finite.empty) b position)) k finite.empty) c) same
              ∙ ap (λ m. finite.get m c) (get_or-set_same ms i (finite.insert (get_or ms i finite.empty) b position) finite.empty within)
              ∙ finite.get-insert nat_list_cmp_total (get_or ms i finite.empty) b position c
              ∙ ap (cond (eq_by_cmp (slice_cmp nat_cmp) c b) (Some position)) (ap (λ k. finite.get (get_or ms k finite.empty) c) (sym same) ∙ sym (get-all ms t c))
              ∙ ap (λ r. cond r (Some position) (finite.get (all_bodies ms) (t, c))) (sym tests)
          | false ↦ λ other.
              let tests : eq_by_cmp body_cmp (t, c) (i, b) ≡ false = tied_parts (nat_cmp t i) (slice_cmp nat_cmp c b) ∙ ap (λ r. cond r (is_eq (slice_cmp nat_cmp c b)) false) other in
              ap (λ m. finite.get m c) (get_or-set_other ms i t (finite.insert (get_or ms i finite.empty) b position) finite.empty (apart t i other))
              ∙ sym (get-all ms t c)
              ∙ ap (λ r. cond r (Some position) (finite.get (all_bodies ms) (t, c))) (sym tests)
        ] refl

-- the place of one body of a table
pub all-placing : (ms : List Bodies) (i : ℕ) (b : List ℕ) (position : Option ℕ) → i < length ms
    → all_bodies (set ms i (placing b position (get_or ms i finite.empty))) ≡ placing (i, b) position (all_bodies ms)
all-placing ms i b position within =
    let has = finite.contains_key (get_or ms i finite.empty) b in
    let alike : finite.contains_key (all_bodies ms) (i, b) ≡ has = ap is_some (get-all ms i b) in
    elim has as (λ h. finite.contains_key (get_or ms i finite.empty) b ≡ h → all_bodies (set ms i (placing b position (get_or ms i finite.empty))) ≡ placing (i, b) position (all_bodies ms)) [
      | true ↦ λ there.
          ap (λ m. all_bodies (set ms i m)) (placing_there b position (get_or ms i finite.empty) there)
          ∙ all-insert ms i b position within ∙ sym (placing_there (i, b) position (all_bodies ms) (alike ∙ there))
      | false ↦ λ nowhere.
          ap (λ m. all_bodies (set ms i m)) (placing_nowhere b position (get_or ms i finite.empty) nowhere)
          ∙ ap all_bodies (set-get_or ms i finite.empty) ∙ sym (placing_nowhere (i, b) position (all_bodies ms) (alike ∙ nowhere))
    ] refl

-- a table that is there is found whatever is given for one that is not
pub same_within : (ms : List Bodies) (i : ℕ) (d e : Bodies) → i < length ms → get_or ms i d ≡ get_or ms i e
same_within [] i d e h = absurd (omega arith)
same_within (m ∷ ms) zero d e h = refl
same_within (m ∷ ms) (suc i) d e h = same_within ms i d e (omega arith)

-- nothing is asked for of a table that is not there
pub none-outside : (ms : List Bodies) (i : ℕ) (b : List ℕ) → length ms ≤ i → finite.get (all_bodies ms) (i, b) ≡ None
none-outside ms i b outside = get-all ms i b ∙ ap (λ m. finite.get m b) (no_table ms i outside) ∙ finite.get-empty (slice_cmp nat_cmp) b
  where
    no_table : (ms : List Bodies) (i : ℕ) → length ms ≤ i → get_or ms i finite.empty ≡ finite.empty
    no_table [] i h = refl
    no_table (m ∷ ms) zero h = absurd (omega arith)
    no_table (m ∷ ms) (suc i) h = no_table ms i (omega arith)

pub none-placing : (ms : List Bodies) (i : ℕ) (b : List ℕ) (position : Option ℕ) → length ms ≤ i → all_bodies ms ≡ placing (i, b) position (all_bodies ms)
none-placing ms i b position outside = sym (placing_nowhere (i, b) position (all_bodies ms) (ap is_some (none-outside ms i b outside)))
