-- Where a tag begins.
use Rattle.std.proofs.Common.{◌≡◌, ℕ, Bool, true, false, refl, List, [], ◌∷◌, Option, Some, None}
use Rattle.std.specs.Prelude.{◌==◌, is_some, if◌then◌else◌}
use Rattle.dd_pbn.specs.Letters.{is_blank}
use Rattle.dd_pbn.specs.Values.{begins_tag}
use Rattle.dd_pbn.specs.Reading.{Gives, after_blanks, byte_at}

-- there is a text after the bracket exactly where it is the first byte
bracket-first : (byte : ℕ) (text : List ℕ) → (byte == 91) ≡ is_some (byte_at 91 (byte ∷ text))
unfolding byte_at
bracket-first byte text = elim (byte == 91) as (λ b. b ≡ is_some (if b then Some text else None)) [ true ↦ refl | false ↦ refl ]

-- so a tag begins where there is a text after blanks and the bracket
pub begins_tag-read : (text : List ℕ) → begins_tag text ≡ is_some (byte_at 91 (after_blanks text))
unfolding after_blanks byte_at
begins_tag-read [] = refl
begins_tag-read (byte ∷ text) =
    elim (is_blank byte) as (λ b. (if b then begins_tag text else byte == 91) ≡ is_some (byte_at 91 (if b then after_blanks text else byte ∷ text))) [
      | true ↦ begins_tag-read text
      | false ↦ bracket-first byte text
    ]

-- something is returned exactly where reading gives something
pub Gives-some : {X Y : Type 0} (view : X → Y) (result : Option X) (read : Option Y) → Gives view result read → is_some result ≡ is_some read
Gives-some view None read is = rw is refl
Gives-some view (Some x) read is = rw is refl
