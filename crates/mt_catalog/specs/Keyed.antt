-- Slots by their keys.
use Rattle.std.specs.Prelude.{◌==◌, ◌&&◌, Bool, true, false, if◌then◌else◌, List, [], ◌∷◌, Option, None, Some}
use Rattle.mt_catslot.specs.declared.slot.Class.{Class}
use Rattle.mt_catslot.specs.declared.slot.Class.TheVariants as classes
use Rattle.mt_catslot.specs.declared.slot.CatSlot.{CatSlot}
use Rattle.mt_catslot.specs.declared.slot.CatKey.{CatKey}
use Rattle.mt_catslot.specs.declared.slot.CatKey.TheVariants as keys

-- whether two classes are one
abbrev pub same_class : Class → Class → Bool
same_class classes.BaseTable classes.BaseTable = true
same_class classes.Extension classes.Extension = true
same_class class other = false

-- whether two keys are one
abbrev pub same_key : CatKey → CatKey → Bool
same_key (keys.Relation class number) (keys.Relation c n) = same_class class c && (number == n)
same_key (keys.Column class number position) (keys.Column c n p) = same_class class c && ((number == n) && (position == p))
same_key (keys.Tenant tenant) (keys.Tenant t) = tenant == t
same_key (keys.Placement tenant base) (keys.Placement t b) = (tenant == t) && (base == b)
same_key (keys.Extended tenant base position) (keys.Extended t b p) = (tenant == t) && ((base == b) && (position == p))
same_key (keys.Field tenant base generation column) (keys.Field t b g c) = (tenant == t) && ((base == b) && ((generation == g) && (column == c)))
same_key key other = false

-- the slot that stands with this key among such entries, if one does
abbrev pub slot_in : List (CatKey × CatSlot) → CatKey → Option CatSlot
slot_in [] key = None
slot_in (entry ∷ entries) key = if same_key key entry.0 then Some entry.1 else slot_in entries key
