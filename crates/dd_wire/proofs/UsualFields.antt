-- The members that the fields of a usual line stand for.
use Rattle.std.proofs.Common.{◌≡◌, ℕ, suc, take, drop, Bool, true, false, ◌&&◌, List, [], ◌∷◌, ◌++◌, Option, Some, None, refl, sym, ap, ◌∙◌}
use Rattle.std.proofs.lemmas.Bool.{and_parts, false≢true}
use Rattle.std.specs.List.{list_all}
use Rattle.std.specs.declared.cmp.Ordering.{Ordering}
use Rattle.std.specs.declared.cmp.Ordering.TheVariants.{Less, Equal, Greater}
use Rattle.std.specs.Ordering.{nat_cmp}
use Rattle.std.specs.Cmp.Lexicographic.{slice_cmp}
use Rattle.serde_json.specs.Data.{Data, member, put}
use Rattle.json.specs.Run.{is_plain}
use Rattle.dd_wire.specs.declared.usual_reader.Fields.{Fields}
use Rattle.dd_wire.specs.UsualLines.{Adds, Puts, slots, members_in}
use Rattle.dd_wire.proofs.UsualValues.{key-is}

abbrev is_less : Ordering → Bool
is_less Less = true
is_less Equal = false
is_less Greater = false

abbrev is_greater : Ordering → Bool
is_greater Less = false
is_greater Equal = false
is_greater Greater = true

less-is : (o : Ordering) → is_less o ≡ true → o ≡ Less
less-is Less is = refl
less-is Equal is = absurd (false≢true is)
less-is Greater is = absurd (false≢true is)

greater-is : (o : Ordering) → is_greater o ≡ true → o ≡ Greater
greater-is Less is = absurd (false≢true is)
greater-is Equal is = absurd (false≢true is)
greater-is Greater is = refl

abbrev pub Slots : Type 0
Slots = List (List ℕ × Option Data)

-- is the key before those of all these, or after?
abbrev pub is_before : List ℕ → Slots → Bool
is_before _ [] = true
is_before key (slot ∷ slots) = is_less (slice_cmp nat_cmp key slot.0) && is_before key slots

abbrev pub is_after : List ℕ → Slots → Bool
is_after _ [] = true
is_after key (slot ∷ slots) = is_greater (slice_cmp nat_cmp key slot.0) && is_after key slots

-- a key before all of them goes to the front
put-front : (key : List ℕ) (value : Data) (slots : Slots) → is_before key slots ≡ true → put key value (members_in slots) ≡ member key value (members_in slots)
put-front key value [] all = refl
put-front key value ((apart, None) ∷ slots) all = put-front key value slots (and_parts (is_less (slice_cmp nat_cmp key apart)) _ all).1
put-front key value ((apart, Some found) ∷ slots) all = let first = less-is _ (and_parts (is_less (slice_cmp nat_cmp key apart)) _ all).0 in rw first refl

-- an empty slot is filled
put-slot : (before : Slots) (key : List ℕ) (value : Data) (later : Slots) → is_after key before ≡ true → is_before key later ≡ true
    → put key value (members_in (before ++ (key, None) ∷ later)) ≡ members_in (before ++ (key, Some value) ∷ later)
put-slot [] key value later above below = put-front key value later below
put-slot ((apart, None) ∷ before) key value later above below = put-slot before key value later (and_parts (is_greater (slice_cmp nat_cmp key apart)) _ above).1 below
put-slot ((apart, Some found) ∷ before) key value later above below =
    let both = and_parts (is_greater (slice_cmp nat_cmp key apart)) _ above in
    rw (greater-is _ both.0) (ap (member apart found) (put-slot before key value later both.1 below))

put-into : (before : Slots) (key : List ℕ) (value : Data) (later : Slots) (old new : Option Data) → old ≡ None → new ≡ Some value → is_after key before ≡ true → is_before key later ≡ true
    → put key value (members_in (before ++ (key, old) ∷ later)) ≡ members_in (before ++ (key, new) ∷ later)
put-into before key value later old new was is above below = rw (was, is) (put-slot before key value later above below)

-- a member is added whose key has the slot after the first so many
pub adds-at : (i : ℕ) (key : List ℕ) (old new : Fields) {text after rest : List ℕ} {was is : Option Data} → text ≡ 34 ∷ (key ++ 34 ∷ 58 ∷ after) → Puts after was is rest
    → slots old ≡ take i (slots old) ++ (key, was) ∷ drop (suc i) (slots old) → slots new ≡ take i (slots old) ++ (key, is) ∷ drop (suc i) (slots old)
    → is_after key (take i (slots old)) ≡ true → is_before key (drop (suc i) (slots old)) ≡ true → list_all is_plain key ≡ true → Adds text old rest new
adds-at i key old new {text} {after} {rest} {was} {is} stands puts before later above below plain =
    record {
      key = key;
      value = puts.value;
      is = key-is key text after rest puts.value plain stands puts.valued;
      added = ap (λ (ss : Slots). put key puts.value (members_in ss)) before ∙ put-into (take i (slots old)) key puts.value (drop (suc i) (slots old)) was is puts.none puts.some above below
          ∙ ap members_in (sym later);
    }
