-- which bytes are letters, and which are blanks
use Rattle.std.proofs.Common.{◌≡◌, ℕ, zero, suc, ◌+◌, ◌-◌, ◌<◌, ◌≤◌, Bool, true, false, cond, refl, sym, subst, arith, List, [], ◌∷◌, ◌++◌, Some, None, inl, inr}
use Rattle.std.specs.Prelude.{find, is_some, ◌==◌, IsFalse}
use Rattle.std.specs.List.{list_all}
use Rattle.std.specs.Char.{to_ascii_uppercase}
use Rattle.std.proofs.lemmas.Bool.{eqb-true, or_cases, and_parts, cases_Bool}
use Rattle.dd_cards.specs.declared.seat.Seat.{Seat}
use Rattle.dd_cards.specs.declared.seat.Seat.TheVariants.{North, East, South, West}
use Rattle.dd_cards.specs.Ranks.{IsRank, lowest_ranks, all_ranks}
use Rattle.dd_pbn.specs.Letters.{letter_of, seat_letter, rank_of, is_blank, AreBlanks}
use Rattle.dd_pbn.specs.Values.{IsGap}
use Rattle.dd_pbn.specs.Reading.{seat_of}

-- each of the thirteen letters, one by one
at : (k : ℕ) → k < 13 → rank_of (letter_of (k + 2)) ≡ Some (k + 2)
unfolding rank_of all_ranks lowest_ranks
at zero h = refl
at (suc zero) h = refl
at (suc (suc zero)) h = refl
at (suc (suc (suc zero))) h = refl
at (suc (suc (suc (suc zero)))) h = refl
at (suc (suc (suc (suc (suc zero))))) h = refl
at (suc (suc (suc (suc (suc (suc zero)))))) h = refl
at (suc (suc (suc (suc (suc (suc (suc zero))))))) h = refl
at (suc (suc (suc (suc (suc (suc (suc (suc zero)))))))) h = refl
at (suc (suc (suc (suc (suc (suc (suc (suc (suc zero))))))))) h = refl
at (suc (suc (suc (suc (suc (suc (suc (suc (suc (suc zero)))))))))) h = refl
at (suc (suc (suc (suc (suc (suc (suc (suc (suc (suc (suc zero))))))))))) h = refl
at (suc (suc (suc (suc (suc (suc (suc (suc (suc (suc (suc (suc zero)))))))))))) h = refl
at (suc (suc (suc (suc (suc (suc (suc (suc (suc (suc (suc (suc (suc k))))))))))))) h = absurd (omega arith)

-- a rank's letter stands for it
pub rank_of-letter : (rank : ℕ) → IsRank rank → rank_of (letter_of rank) ≡ Some rank
rank_of-letter rank real =
    let e : (rank - 2) + 2 ≡ rank = omega arith in
    subst (λ (r : ℕ). rank_of (letter_of r) ≡ Some r) e (at (rank - 2) (omega arith))

-- what is found among the ranks is a rank
found : (p : ℕ → Bool) (k rank : ℕ) → find p (lowest_ranks k) ≡ Some rank → (2 ≤ rank) × (rank < k + 2)
unfolding lowest_ranks
found p zero rank h = absurd (cc)
found p (suc k) rank h = go (λ e. found p k rank e) (p (k + 2)) h
  where
    go : (find p (lowest_ranks k) ≡ Some rank → (2 ≤ rank) × (rank < k + 2)) → (b : Bool) → cond b (Some (k + 2)) (find p (lowest_ranks k)) ≡ Some rank → (2 ≤ rank) × (rank < suc k + 2)
    go below true h = let same : k + 2 ≡ rank = cc in (omega arith, omega arith)
    go below false h = let rest = below h in (rest.0, omega arith)

-- what a byte stands for is a rank
pub rank_of-real : (byte rank : ℕ) → rank_of byte ≡ Some rank → IsRank rank
unfolding rank_of all_ranks
rank_of-real byte rank h =
    let f = found (λ r. letter_of r == to_ascii_uppercase byte) 13 rank h in
    (f.0, omega arith)

-- does the byte stand for a rank?
abbrev pub is_letter : ℕ → Bool
is_letter byte = is_some (rank_of byte)

-- the text does not begin with such a byte
abbrev pub Ends : (ℕ → Bool) → List ℕ → Type 0
Ends test [] = Unit {0}
Ends test (byte ∷ text) = IsFalse (test byte)

-- ---- what is no letter
-- a blank is no letter
pub blank-none : (byte : ℕ) → is_blank byte ≡ true → is_letter byte ≡ false
unfolding rank_of all_ranks lowest_ranks
blank-none byte blank =
    elim (or_cases (byte == 32) (byte == 9) blank) [
      | inl space ↦ subst (λ (b : ℕ). is_letter b ≡ false) (sym (eqb-true byte 32 space)) refl
      | inr tab ↦ subst (λ (b : ℕ). is_letter b ≡ false) (sym (eqb-true byte 9 tab)) refl
    ]

-- a point is no letter
pub point-none : is_letter 46 ≡ false
unfolding rank_of all_ranks lowest_ranks
point-none = refl

-- a dash is no letter
pub dash-none : is_letter 45 ≡ false
unfolding rank_of all_ranks lowest_ranks
dash-none = refl

-- a quote is no letter
pub quote-none : is_letter 34 ≡ false
unfolding rank_of all_ranks lowest_ranks
quote-none = refl

-- ---- what is no blank
-- a letter of a rank is no blank
pub letter-solid : (byte : ℕ) → is_letter byte ≡ true → is_blank byte ≡ false
letter-solid byte letter = elim (cases_Bool (is_blank byte)) [ inl blank ↦ absurd (let e = blank-none byte blank in cc) | inr solid ↦ solid ]

-- a letter of a seat is no blank
pub seat-solid : (byte : ℕ) (seat : Seat) → to_ascii_uppercase byte ≡ seat_letter seat → is_blank byte ≡ false
seat-solid byte seat letter =
    elim (cases_Bool (is_blank byte)) [
      | inr solid ↦ solid
      | inl blank ↦ absurd (elim (or_cases (byte == 32) (byte == 9) blank) [
        | inl space ↦ low 32 seat (omega arith) (subst (λ (b : ℕ). to_ascii_uppercase b ≡ seat_letter seat) (eqb-true byte 32 space) letter)
        | inr tab ↦ low 9 seat (omega arith) (subst (λ (b : ℕ). to_ascii_uppercase b ≡ seat_letter seat) (eqb-true byte 9 tab) letter)
      ])
    ]
  where
    low : (n : ℕ) (seat : Seat) → n < 40 → n ≡ seat_letter seat → ⊥
    low n North below e = omega arith
    low n East below e = omega arith
    low n South below e = omega arith
    low n West below e = omega arith

-- ---- seats
-- what a byte stands for has its letter
pub seat_of-tells : (byte : ℕ) (seat : Seat) → seat_of byte ≡ Some seat → to_ascii_uppercase byte ≡ seat_letter seat
unfolding seat_of
seat_of-tells byte seat h = go (to_ascii_uppercase byte) h
  where
    fourth : (u : ℕ) (b : Bool) → (87 == u) ≡ b → cond b (Some West) None ≡ Some seat → u ≡ seat_letter seat
    fourth u true e h = let same : West ≡ seat = cc in subst (λ (s : Seat). u ≡ seat_letter s) same (sym (eqb-true 87 u e))
    fourth u false e h = absurd (cc)

    third : (u : ℕ) (b : Bool) → (83 == u) ≡ b → cond b (Some South) (cond (87 == u) (Some West) None) ≡ Some seat → u ≡ seat_letter seat
    third u true e h = let same : South ≡ seat = cc in subst (λ (s : Seat). u ≡ seat_letter s) same (sym (eqb-true 83 u e))
    third u false e h = fourth u (87 == u) refl h

    second : (u : ℕ) (b : Bool) → (69 == u) ≡ b → cond b (Some East) (cond (83 == u) (Some South) (cond (87 == u) (Some West) None)) ≡ Some seat → u ≡ seat_letter seat
    second u true e h = let same : East ≡ seat = cc in subst (λ (s : Seat). u ≡ seat_letter s) same (sym (eqb-true 69 u e))
    second u false e h = third u (83 == u) refl h

    first : (u : ℕ) (b : Bool) → (78 == u) ≡ b → cond b (Some North) (cond (69 == u) (Some East) (cond (83 == u) (Some South) (cond (87 == u) (Some West) None))) ≡ Some seat → u ≡ seat_letter seat
    first u true e h = let same : North ≡ seat = cc in subst (λ (s : Seat). u ≡ seat_letter s) same (sym (eqb-true 78 u e))
    first u false e h = second u (69 == u) refl h

    go : (u : ℕ) → find (λ s. seat_letter s == u) (North ∷ East ∷ South ∷ West ∷ []) ≡ Some seat → u ≡ seat_letter seat
    go u h = first u (78 == u) refl h

-- a byte with the letter of a seat stands for it
pub seat_of-letter : (byte : ℕ) (seat : Seat) → to_ascii_uppercase byte ≡ seat_letter seat → seat_of byte ≡ Some seat
unfolding seat_of
seat_of-letter byte seat letter = rw letter (each seat)
  where
    each : (s : Seat) → find (λ t. seat_letter t == seat_letter s) (North ∷ East ∷ South ∷ West ∷ []) ≡ Some s
    each North = refl
    each East = refl
    each South = refl
    each West = refl

-- ---- texts
-- what follows blanks begins with no letter, if blanks are followed by none
pub Ends-blanks : (blanks rest : List ℕ) → AreBlanks blanks → Ends is_letter rest → Ends is_letter (blanks ++ rest)
Ends-blanks [] rest are ends = ends
Ends-blanks (byte ∷ blanks) rest are ends = blank-none byte (and_parts (is_blank byte) (list_all is_blank blanks) are).0

-- one or more blanks begin with no letter, whatever follows
pub gap-ends : (gap rest : List ℕ) → IsGap gap → Ends is_letter (gap ++ rest)
gap-ends [] rest is = absurd (let more = is.1 in omega arith)
gap-ends (byte ∷ blanks) rest is = blank-none byte (and_parts (is_blank byte) (list_all is_blank blanks) is.0).0
