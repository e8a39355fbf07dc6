-- the list of par contracts, step by step
use Rattle.std.proofs.Common.{◌≡◌, ℕ, suc, ◌+◌, ◌-◌, ◌<◌, true, false, List, [], refl, sym, ap, ◌∙◌, ℤ, Option, None, Some, is_some, arith}
use Rattle.dd_cards.specs.declared.side.Side.{Side}
use Rattle.dd_cards.specs.declared.side.Side.TheVariants.{NorthSouth, EastWest}
use Rattle.dd_cards.specs.declared.strain.Strain.{Strain}
use Rattle.dd_score.specs.declared.order.Order.{Order}
use Rattle.dd_score.specs.declared.vulnerable.Vulnerable.{Vulnerable}
use Rattle.dd_score.specs.declared.par_contract.ParContract.{ParContract}
use Rattle.dd_score.specs.ParContracts.{all_at, first_of, least_from, least_of, with_contract, strain_coded, contracts_below}

module _ (table : List (List ℕ)) (vulnerable : Vulnerable) (order : Order) (v : ℤ) where
  -- ---- the least level
  -- found
  pub least-found : (side : Side) (strain : Strain) (level : ℕ) (found : Option ParContract) → level < 8
      → found ≡ all_at table vulnerable order v side strain level → is_some found ≡ true
      → least_of table vulnerable order v strain side ≡ least_from table vulnerable order v side strain (8 - level) level
      → found ≡ least_of table vulnerable order v strain side
  unfolding least_from
  least-found side strain level found low here is so =
      sym (so ∙ ap (λ n. least_from table vulnerable order v side strain n level) (let e : 8 - level ≡ suc (8 - (level + 1)) = omega arith in e)
      ∙ ap (λ o. first_of o (least_from table vulnerable order v side strain (8 - (level + 1)) (level + 1))) (sym here)
      ∙ taken found (least_from table vulnerable order v side strain (8 - (level + 1)) (level + 1)) is)
    where
      taken : (o rest : Option ParContract) → is_some o ≡ true → first_of o rest ≡ o
      taken (Some c) rest h = refl
      taken None rest h = absurd (cc)

  -- not found yet
  pub least-on : (side : Side) (strain : Strain) (level : ℕ) (found : Option ParContract) → level < 8
      → found ≡ all_at table vulnerable order v side strain level → is_some found ≡ false
      → least_of table vulnerable order v strain side ≡ least_from table vulnerable order v side strain (8 - level) level
      → least_of table vulnerable order v strain side ≡ least_from table vulnerable order v side strain (8 - (level + 1)) (level + 1)
  unfolding least_from
  least-on side strain level found low here none so =
      so ∙ ap (λ n. least_from table vulnerable order v side strain n level) (let e : 8 - level ≡ suc (8 - (level + 1)) = omega arith in e)
      ∙ ap (λ o. first_of o (least_from table vulnerable order v side strain (8 - (level + 1)) (level + 1))) (sym here)
      ∙ skipped found (least_from table vulnerable order v side strain (8 - (level + 1)) (level + 1)) none
    where
      skipped : (o rest : Option ParContract) → is_some o ≡ false → first_of o rest ≡ rest
      skipped (Some c) rest h = absurd (cc)
      skipped None rest h = refl

  -- at no level
  pub least-none : (side : Side) (strain : Strain) → least_from table vulnerable order v side strain 0 8 ≡ None
  unfolding least_from
  least-none side strain = refl

  -- ---- the list
  pub none-listed : [] ≡ contracts_below table vulnerable order v 0
  unfolding contracts_below
  none-listed = refl

  -- one strain more
  pub more-listed : (n : ℕ) (strain : Strain) (one two : Option ParContract) (before between after : List ParContract) → strain ≡ strain_coded n
      → before ≡ contracts_below table vulnerable order v n → one ≡ least_of table vulnerable order v strain NorthSouth
      → two ≡ least_of table vulnerable order v strain EastWest → between ≡ with_contract before one → after ≡ with_contract between two
      → after ≡ contracts_below table vulnerable order v (n + 1)
  unfolding contracts_below
  more-listed n strain one two before between after at so theirs others here there =
      there ∙ ap (λ l. with_contract l two) (here ∙ ap (λ l. with_contract l one) so ∙ ap (with_contract (contracts_below table vulnerable order v n)) (theirs ∙ ap (λ s. least_of table vulnerable order v s NorthSouth) at))
      ∙ ap (with_contract _) (others ∙ ap (λ s. least_of table vulnerable order v s EastWest) at)
      ∙ sym (ap (contracts_below table vulnerable order v) (let e : n + 1 ≡ suc n = omega arith in e))
