-- A line has one tag at most, and one text behind it: blanks end a tag, and no tag has one.
use Rattle.std.proofs.Common.{◌≡◌, ℕ, ◌^◌, ◌<◌, ◌≤◌, ◌==◌, true, false, List, [], ◌∷◌, ◌++◌, codes, decimal, refl, sym, ap, ◌∙◌, ne_eqb, arith}
use Rattle.std.specs.Str.Parse.{AllDigits}
use Rattle.std.proofs.lemmas.Str.Parse.{digit_at}
use Rattle.std.proofs.lemmas.Fmt.{decimal_is_IsNumeral, decimal_injective}
use Rattle.mt_tree.specs.declared.who.Who.{Who}
use Rattle.mt_tree.specs.declared.who.Who.TheVariants.{Admin, Tenant}
use Rattle.mt_script.specs.Lines.{is_blank}
use Rattle.mt_script.specs.Tags.{tag_bytes, CanSend, EndsTag, HasTag}

-- bytes of which none is a blank
abbrev pub HasNoBlank : List ℕ → Type 0
HasNoBlank [] = Unit {0}
HasNoBlank (b ∷ bs) = (is_blank b ≡ false) × HasNoBlank bs

-- what begins with a blank does not begin with another byte
blank_ends : (b c : ℕ) (bs cs : List ℕ) → is_blank b ≡ true → is_blank c ≡ false → b ∷ bs ≡ c ∷ cs → ⊥
blank_ends b c bs cs blank none e =
    let heads : b ≡ c = cc in
    let same : is_blank b ≡ is_blank c = ap is_blank heads in
    cc

-- where bytes without a blank stand before a blank or the end, both parts are determined
pub parts-determined : (xs ys s t : List ℕ) → HasNoBlank xs → HasNoBlank ys → EndsTag s → EndsTag t → xs ++ s ≡ ys ++ t → (xs ≡ ys) × (s ≡ t)
parts-determined [] [] s t p q f g e = (refl, e)
parts-determined [] (y ∷ ys) [] t p q f g e = cc
parts-determined [] (y ∷ ys) (b ∷ bs) t p q f g e = absurd (blank_ends b y bs (ys ++ t) f q.0 e)
parts-determined (x ∷ xs) [] s [] p q f g e = cc
parts-determined (x ∷ xs) [] s (b ∷ bs) p q f g e = absurd (blank_ends b x bs (xs ++ s) g p.0 (sym e))
parts-determined (x ∷ xs) (y ∷ ys) s t p q f g e =
    let heads : x ≡ y = cc in
    let tails : xs ++ s ≡ ys ++ t = cc in
    let rest = parts-determined xs ys s t p.1 q.1 f g tails in
    let fronts : x ∷ xs ≡ y ∷ ys = cc (heads, rest.0) in
    (fronts, rest.1)

-- a digit is no blank
digit-is_blank : (c : ℕ) → 48 ≤ c → is_blank c ≡ false
digit-is_blank c low =
    let space : (c == 32) ≡ false = ne_eqb c 32 (omega arith) in
    let tab : (c == 9) ≡ false = ne_eqb c 9 (omega arith) in
    rw (space, tab) refl

-- digits have no blank
HasNoBlank-digits : (ds : List ℕ) → AllDigits 10 ds → HasNoBlank ds
HasNoBlank-digits [] h = tt
HasNoBlank-digits (c ∷ cs) h = (digit-is_blank c (digit_at (c ∷ cs) 0 h (omega arith)).0, HasNoBlank-digits cs h.1)

-- a tenant's number fits 64 bits
below_64 : (n : ℕ) → n < 2 ^ 32 → n < 2 ^ 64
below_64 n h = omega arith

-- a tag has no blank
pub HasNoBlank-tag : (who : Who) → CanSend who → HasNoBlank (tag_bytes who)
HasNoBlank-tag Admin h = (refl, (refl, (refl, (refl, (refl, (refl, tt))))))
HasNoBlank-tag (Tenant tenant) h = (refl, HasNoBlank-digits (decimal tenant) (decimal_is_IsNumeral tenant (below_64 tenant h.1)).0.1)

-- a number does not begin with a letter
admin_is_no_tenant : (ds : List ℕ) → AllDigits 10 ds → codes "@admin" ≡ 64 ∷ ds → ⊥
admin_is_no_tenant [] h e = cc
admin_is_no_tenant (c ∷ cs) h e =
    let letter : 97 ≡ c = cc in
    let digit : c ≤ 57 = (digit_at (c ∷ cs) 0 h (omega arith)).1 in
    omega arith

-- different senders have different tags
tag_bytes-injective : (a b : Who) → CanSend a → CanSend b → tag_bytes a ≡ tag_bytes b → a ≡ b
tag_bytes-injective Admin Admin p q e = refl
tag_bytes-injective Admin (Tenant n) p q e = absurd (admin_is_no_tenant (decimal n) (decimal_is_IsNumeral n (below_64 n q.1)).0.1 e)
tag_bytes-injective (Tenant m) Admin p q e = absurd (admin_is_no_tenant (decimal m) (decimal_is_IsNumeral m (below_64 m p.1)).0.1 (sym e))
tag_bytes-injective (Tenant m) (Tenant n) p q e =
    let numbers : decimal m ≡ decimal n = cc in
    ap Tenant (decimal_injective m n (below_64 m p.1) (below_64 n q.1) numbers)

-- a line has at most one tag and text
pub HasTag-determined : (bytes : List ℕ) (a b : Who) (s t : List ℕ) → HasTag bytes a s → HasTag bytes b t → (a ≡ b) × (s ≡ t)
HasTag-determined bytes a b s t f g =
    let parts = parts-determined (tag_bytes a) (tag_bytes b) s t (HasNoBlank-tag a f.sender) (HasNoBlank-tag b g.sender) f.ends g.ends (sym f.spelling ∙ g.spelling) in
    (tag_bytes-injective a b f.sender g.sender parts.0, parts.1)
