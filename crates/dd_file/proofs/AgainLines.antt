-- The lines that a game gets are passed over, and then their names are there.
use Rattle.std.proofs.Common.{◌≡◌, ℕ, ◌≤◌, Bool, true, false, List, ◌∷◌, ◌++◌, length, refl, arith, length-append, codes, Option, None, Some, is_some}
use Rattle.std.specs.Prelude.{◌&&◌, slice_set}
use Rattle.dd_cards.specs.declared.seat.Seat.{Seat}
use Rattle.dd_cards.specs.declared.seat.Seat.TheVariants.{North, East, South, West}
use Rattle.dd_cards.specs.declared.strain.Strain.{Strain}
use Rattle.dd_cards.specs.declared.strain.Strain.TheVariants.{Trump, Notrump}
use Rattle.dd_cards.specs.declared.suit.Suit.TheVariants.{Spades, Hearts, Diamonds, Clubs}
use Rattle.dd_score.specs.Tables.{tricks_of}
use Rattle.dd_file.specs.declared.fill_state.FillState.{FillState}
use Rattle.dd_file.specs.declared.line_text.LineEnds.{LineEnds}
use Rattle.dd_file.specs.declared.mark.TheConstants.{NEAR}
use Rattle.dd_file.specs.declared.wanted.Wanted.{Wanted}
use Rattle.dd_file.specs.Filled.{Found, ParFound, added_text, par_text, where_lacking}
use Rattle.dd_file.specs.Games.{with_tag}
use Rattle.dd_file.specs.KnownTags.{added_number, first_number, known_number, last_number}
use Rattle.dd_file.specs.Lines.{contract_line, contracts_text, digits_of, line_with, row_line, row_with, rows_of_seat, score_line, score_text, table_header, table_text, tricks_line}
use Rattle.dd_file.specs.Tags.{after_string}
use Rattle.dd_file.proofs.AgainContents.{are_inside, contracts-inside, digits-inside, inside-append, inside-content, row-body, score-inside}
use Rattle.dd_file.proofs.AgainOver.{Walk}
use Rattle.dd_file.proofs.AgainTagLines.{IsBody, IsContent, IsTagName, Passes, passes-line, passes-none, passes-then, tag-line, tag_rest}

-- the names with one more, where its line is lacking
abbrev pub set_where : Bool → ℕ → List Bool → List Bool
set_where true number names = slice_set names number true
set_where false number names = names

abbrev pub names_with : Wanted → Bool → List Bool → List Bool
names_with lacking has_par names =
    set_where lacking.table 18 (set_where (has_par && lacking.contract) 17 (set_where (has_par && lacking.score) 16 (set_where lacking.tricks 15 names)))

-- the lines of par are no longer than what a tag is judged by
abbrev pub FitsPar : Option ParFound → Type 0
FitsPar None = Unit {0}
FitsPar (Some par) = (length (score_line par.score) ≤ NEAR) × (length (contract_line par.contracts) ≤ NEAR)

module _ {X : Type 0} (walk : Walk X) (state : FillState) where
  tricks-name : IsTagName walk state 68 (codes "oubleDummyTricks") 15
  unfolding with_tag known_number first_number last_number added_number
  tricks-name = record { names = refl; first = refl; gap = refl; quiet = refl; plain = refl; optional = refl; tells = λ quoted st. refl }

  score-name : IsTagName walk state 79 (codes "ptimumScore") 16
  unfolding with_tag known_number first_number last_number added_number
  score-name = record { names = refl; first = refl; gap = refl; quiet = refl; plain = refl; optional = refl; tells = λ quoted st. refl }

  contract-name : IsTagName walk state 80 (codes "arContract") 17
  unfolding with_tag known_number first_number last_number added_number
  contract-name = record { names = refl; first = refl; gap = refl; quiet = refl; plain = refl; optional = refl; tells = λ quoted st. refl }

  table-name : IsTagName walk state 79 (codes "ptimumResultTable") 18
  unfolding with_tag known_number first_number last_number added_number
  table-name = record { names = refl; first = refl; gap = refl; quiet = refl; plain = refl; optional = refl; tells = λ quoted st. refl }

  columns : IsContent walk state (codes "Declarer;Denomination\\2R;Result\\2R")
  unfolding after_string
  columns = record { read = λ t. refl; quoted = refl; quiet = refl }

  five : (table : List (List ℕ)) (declarer : Seat) → length (digits_of table declarer) ≡ 5
  unfolding digits_of
  five table declarer = refl

  tricks-body : (table : List (List ℕ)) → IsBody walk state (tricks_line table) (λ names. slice_set names 15 true)
  tricks-body table =
      let n = digits_of table North in
      let s = digits_of table South in
      let e = digits_of table East in
      let w = digits_of table West in
      let a : length n ≡ 5 = five table North in
      let b : length s ≡ 5 = five table South in
      let c : length e ≡ 5 = five table East in
      let d : length w ≡ 5 = five table West in
      let good : are_inside (n ++ s ++ e ++ w) ≡ true = inside-append (n ++ s ++ e) w (inside-append (n ++ s) e (inside-append n s (digits-inside table North) (digits-inside table South)) (digits-inside table East)) (digits-inside table West) in
      let few : length (tag_rest walk state (68 ∷ codes "oubleDummyTricks") (n ++ s ++ e ++ w)) ≤ 65535 = omega (arith, length-append {A = ℕ}) in
      tag-line walk state 68 (codes "oubleDummyTricks") (n ++ s ++ e ++ w) 15 tricks-name (inside-content walk state (n ++ s ++ e ++ w) good) few

  score-body : (par : ParFound) → FitsPar (Some par) → IsBody walk state (score_line par.score) (λ names. slice_set names 16 true)
  score-body par fits =
      let all : length (score_line par.score) ≤ 65536 = fits.0 in
      let few : length (tag_rest walk state (79 ∷ codes "ptimumScore") (score_text par.score)) ≤ 65535 = omega arith in
      tag-line walk state 79 (codes "ptimumScore") (score_text par.score) 16 score-name (inside-content walk state (score_text par.score) (score-inside par.score)) few

  contract-body : (par : ParFound) → FitsPar (Some par) → IsBody walk state (contract_line par.contracts) (λ names. slice_set names 17 true)
  contract-body par fits =
      let all : length (contract_line par.contracts) ≤ 65536 = fits.1 in
      let few : length (tag_rest walk state (80 ∷ codes "arContract") (contracts_text par.contracts)) ≤ 65535 = omega arith in
      tag-line walk state 80 (codes "arContract") (contracts_text par.contracts) 17 contract-name (inside-content walk state (contracts_text par.contracts) (contracts-inside par.contracts)) few

  header-body : IsBody walk state table_header (λ names. slice_set names 18 true)
  header-body =
      let few : length (tag_rest walk state (79 ∷ codes "ptimumResultTable") (codes "Declarer;Denomination\\2R;Result\\2R")) ≤ 65535 = omega arith in
      tag-line walk state 79 (codes "ptimumResultTable") (codes "Declarer;Denomination\\2R;Result\\2R") 18 table-name columns few

  -- ---- the rows
  row : (leads has_return : Bool) (table : List (List ℕ)) → ((strain : Strain) (declarer : Seat) → tricks_of table strain declarer ≤ 13) → (declarer : Seat) (strain : Strain)
      → Passes walk state leads has_return (row_with (record { has_return = has_return; leads = leads }) table declarer strain) (λ names. names)
  row leads has_return table most declarer strain =
      passes-line walk state leads has_return (row_line declarer strain (tricks_of table strain declarer)) (λ names. names)
      (row-body walk state declarer strain (tricks_of table strain declarer) (most strain declarer))

  same-names : (leads has_return : Bool) (p q : List ℕ) → Passes walk state leads has_return p (λ names. names) → Passes walk state leads has_return q (λ names. names)
      → Passes walk state leads has_return (p ++ q) (λ names. names)
  same-names leads has_return p q first second = passes-then walk state leads has_return p q (λ names. names) (λ names. names) first second

  rows : (leads has_return : Bool) (table : List (List ℕ)) → ((strain : Strain) (declarer : Seat) → tricks_of table strain declarer ≤ 13) → (declarer : Seat)
      → Passes walk state leads has_return (rows_of_seat (record { has_return = has_return; leads = leads }) table declarer) (λ names. names)
  unfolding rows_of_seat
  rows leads has_return table most declarer =
      let e : LineEnds = record { has_return = has_return; leads = leads } in
      let n = row_with e table declarer Notrump in
      let s = row_with e table declarer (Trump Spades) in
      let h = row_with e table declarer (Trump Hearts) in
      let d = row_with e table declarer (Trump Diamonds) in
      let c = row_with e table declarer (Trump Clubs) in
      let one = row leads has_return table most declarer in
      same-names leads has_return (n ++ s ++ h ++ d) c
      (same-names leads has_return (n ++ s ++ h) d (same-names leads has_return (n ++ s) h (same-names leads has_return n s (one Notrump) (one (Trump Spades))) (one (Trump Hearts))) (one (Trump Diamonds))) (one (Trump Clubs))

  table-passes : (leads has_return : Bool) (table : List (List ℕ)) → ((strain : Strain) (declarer : Seat) → tricks_of table strain declarer ≤ 13)
      → Passes walk state leads has_return (table_text (record { has_return = has_return; leads = leads }) table) (λ names. slice_set names 18 true)
  table-passes leads has_return table most =
      let e : LineEnds = record { has_return = has_return; leads = leads } in
      let t = line_with e table_header in
      let n = rows_of_seat e table North in
      let s = rows_of_seat e table South in
      let a = rows_of_seat e table East in
      let w = rows_of_seat e table West in
      let f : List Bool → List Bool = λ names. slice_set names 18 true in
      let same : List Bool → List Bool = λ names. names in
      let each = rows leads has_return table most in
      passes-then walk state leads has_return (t ++ n ++ s ++ a) w f same
      (passes-then walk state leads has_return (t ++ n ++ s) a f same
      (passes-then walk state leads has_return (t ++ n) s f same
      (passes-then walk state leads has_return t n f same (passes-line walk state leads has_return table_header f header-body) (each North)) (each South)) (each East)) (each West)

  -- ---- all of them
  where-passes : (leads has_return lacking : Bool) (text : List ℕ) (number : ℕ) → Passes walk state leads has_return text (λ names. slice_set names number true)
      → Passes walk state leads has_return (where_lacking lacking text) (set_where lacking number)
  where-passes leads has_return true text number passes = passes
  where-passes leads has_return false text number passes = passes-none walk state leads has_return

  par-passes : (leads has_return : Bool) (lacking : Wanted) (par : Option ParFound) → FitsPar par
      → Passes walk state leads has_return (par_text (record { has_return = has_return; leads = leads }) lacking par)
      (λ names. set_where (is_some par && lacking.contract) 17 (set_where (is_some par && lacking.score) 16 names))
  par-passes leads has_return lacking None fits = passes-none walk state leads has_return
  par-passes leads has_return lacking (Some par) fits =
      let e : LineEnds = record { has_return = has_return; leads = leads } in
      passes-then walk state leads has_return (where_lacking lacking.score (line_with e (score_line par.score))) (where_lacking lacking.contract (line_with e (contract_line par.contracts)))
      (set_where lacking.score 16) (set_where lacking.contract 17)
      (where-passes leads has_return lacking.score (line_with e (score_line par.score)) 16 (passes-line walk state leads has_return (score_line par.score) (λ names. slice_set names 16 true) (score-body par fits)))
      (where-passes leads has_return lacking.contract (line_with e (contract_line par.contracts)) 17
      (passes-line walk state leads has_return (contract_line par.contracts) (λ names. slice_set names 17 true) (contract-body par fits)))

  pub added-passes : (leads has_return : Bool) (lacking : Wanted) (found : Found) → ((strain : Strain) (declarer : Seat) → tricks_of found.table strain declarer ≤ 13) → FitsPar found.par
      → Passes walk state leads has_return (added_text (record { has_return = has_return; leads = leads }) lacking found) (names_with lacking (is_some found.par))
  unfolding added_text
  added-passes leads has_return lacking found most fits =
      let e : LineEnds = record { has_return = has_return; leads = leads } in
      let t = where_lacking lacking.tricks (line_with e (tricks_line found.table)) in
      let p = par_text e lacking found.par in
      let w = where_lacking lacking.table (table_text e found.table) in
      let mid : List Bool → List Bool = λ names. set_where (is_some found.par && lacking.contract) 17 (set_where (is_some found.par && lacking.score) 16 names) in
      passes-then walk state leads has_return (t ++ p) w (λ names. mid (set_where lacking.tricks 15 names)) (set_where lacking.table 18)
      (passes-then walk state leads has_return t p (set_where lacking.tricks 15) mid
      (where-passes leads has_return lacking.tricks (line_with e (tricks_line found.table)) 15 (passes-line walk state leads has_return (tricks_line found.table) (λ names. slice_set names 15 true) (tricks-body found.table)))
      (par-passes leads has_return lacking found.par fits))
      (where-passes leads has_return lacking.table (table_text e found.table) 18 (table-passes leads has_return found.table most))
