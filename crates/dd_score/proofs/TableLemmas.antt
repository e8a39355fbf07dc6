-- every result of a table is at most 13
use Rattle.std.proofs.Common.{◌≡◌, ℕ, zero, suc, ◌≤◌, nat_le, true, List, [], ◌∷◌, get_or, arith}
use Rattle.std.specs.List.{list_all}
use Rattle.std.proofs.lemmas.Bool.{leb-true}
use Rattle.dd_cards.proofs.CallerLemmas.{and-left, and-right}

-- of four results, and 0 past them
pub row-bound : (row : List ℕ) (i : ℕ) → list_all (λ tricks. nat_le tricks 13) row ≡ true → get_or row i 0 ≤ 13
row-bound [] i h = omega arith
row-bound (x ∷ row) zero h = leb-true x 13 (and-left (nat_le x 13) (list_all (λ tricks. nat_le tricks 13) row) h)
row-bound (x ∷ row) (suc i) h = row-bound row i (and-right (nat_le x 13) (list_all (λ tricks. nat_le tricks 13) row) h)

-- and of all twenty
pub table-bound : (table : List (List ℕ)) (i j : ℕ) → list_all (list_all (λ tricks. nat_le tricks 13)) table ≡ true → get_or (get_or table i []) j 0 ≤ 13
table-bound [] i j h = omega arith
table-bound (row ∷ table) zero j h = row-bound row j (and-left (list_all (λ tricks. nat_le tricks 13) row) (list_all (list_all (λ tricks. nat_le tricks 13)) table) h)
table-bound (row ∷ table) (suc i) j h = table-bound table i j (and-right (list_all (λ tricks. nat_le tricks 13) row) (list_all (list_all (λ tricks. nat_le tricks 13)) table) h)
