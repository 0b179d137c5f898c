-- The names in the catalogue.
use Rattle.std.proofs.Common.{◌≡◌, ◌≢◌, ◌↔◌, ℕ, ◌≤◌, List, take, drop, slice_index, Bool, true, false, IsTrue, MatchBool, refl, arith}
use Rattle.std.specs.Str.{IsAscii, IsNotAscii}
use Rattle.std.proofs.lemmas.Str.Ascii.{IsAscii-from_all, All-from_ascii}
use Rattle.mt_rowfile.specs.Slots.{IsBody, IsNameField}

-- a name whose length is one of a name can be read where its bytes are ASCII
pub name_checked : (bytes text : List ℕ) (ascii : Bool) → slice_index bytes 0 ≢ 0 → slice_index bytes 0 ≤ 30
    → text ≡ take (slice_index bytes 0) (drop 1 bytes) → MatchBool ascii (IsAscii text) (IsNotAscii text)
    → IsTrue ascii ↔ IsNameField bytes
name_checked bytes text true some upto is h =
    (λ _. record { some = omega arith; upto = upto; ascii = rw is at (All-from_ascii text h) }, λ _. refl)
name_checked bytes text false some upto is h =
    (λ t. absurd (cc), λ name. absurd (let all = IsAscii-from_all (take (slice_index bytes 0) (drop 1 bytes)) name.ascii h.0 in let high = rw is at h.1 in omega arith))

-- a column whose flags can be read can be read where its name can
pub column_checked : (body name : List ℕ) (read : Bool) → slice_index body 11 ≤ 1 → slice_index body 12 ≤ 1 → name ≡ drop 13 body
    → IsTrue read ↔ IsNameField name → IsTrue read ↔ IsBody 9 body
column_checked body name read not_null key is h = (
  λ t. record { table_name = λ e. absurd (cc); column_name = λ _. rw is at (h.0 t); not_null = λ _. not_null; key = λ _. key },
  λ column. h.1 (rw is (column.column_name refl)),
)
