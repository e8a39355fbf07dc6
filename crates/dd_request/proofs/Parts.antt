-- the twenty parts of a table in order
use Rattle.std.proofs.Common.{◌≡◌, ℕ, ◌+◌, ◌<◌, refl, sym, ap, ◌∙◌, arith, List, [], ◌∷◌, ◌++◌, length, take, get_or}
use Rattle.std.specs.Prelude.{map}
use Rattle.std.specs.List.{flat_map, range_with_len}
use Rattle.std.proofs.lemmas.List.{take_more}
use Rattle.std.proofs.lemmas.List.FromFn.{map-range_with_len_more, get_or-map-range_with_len}
use Rattle.dd_cards.specs.Hands.{FourHands}
use Rattle.dd_cards.specs.declared.strain.Strain.TheVariants.{Trump, Notrump}
use Rattle.dd_cards.specs.declared.suit.Suit.TheVariants.{Spades, Hearts, Diamonds, Clubs}
use Rattle.dd_request.specs.Results.{PartResult, part_result, all_parts, results, strain_results, contracts, contract_of}

-- there are twenty
pub length-parts : (hands : FourHands) → length (all_parts hands) ≡ 20
unfolding all_parts
length-parts hands = refl

-- the numbers 0 to 19, each a part
pub parts-all : (hands : FourHands) → all_parts hands ≡ map (part_result hands) (range_with_len 0 20)
unfolding all_parts
parts-all hands = refl

-- their results are the twenty
pub results-all : (hands : FourHands) → map (λ part. part.tricks) (all_parts hands) ≡ results hands
unfolding all_parts results contracts contract_of
results-all hands = refl

-- one part more
pub parts-more : (hands : FourHands) (parts : List PartResult) (place : ℕ) (part : PartResult) → place < length parts → part ≡ get_or parts place part
    → take place parts ≡ map (part_result hands) (range_with_len 0 place) → part ≡ part_result hands place
    → take (place + 1) parts ≡ map (part_result hands) (range_with_len 0 (place + 1))
parts-more hands parts place part within here before is =
    take_more parts place part within
    ∙ ap (λ xs. xs ++ get_or parts place part ∷ []) before
    ∙ ap (λ x. map (part_result hands) (range_with_len 0 place) ++ x ∷ []) (sym here ∙ is)
    ∙ sym (map-range_with_len_more (part_result hands) 0 place place (omega arith))

-- the part at a place
pub part-at : (hands : FourHands) (parts : List PartResult) (many place : ℕ) (part : PartResult) → place < many → part ≡ get_or parts place part
    → parts ≡ map (part_result hands) (range_with_len 0 many) → part ≡ part_result hands place
part-at hands parts many place part within here e =
    here ∙ ap (λ xs. get_or xs place part) e ∙ get_or-map-range_with_len (part_result hands) 0 many place place part within (omega arith)

-- those of the five strains, one after another, are the results
pub results-strains : (hands : FourHands) (spades hearts diamonds clubs notrump : List ℕ)
    → spades ≡ strain_results hands (Trump Spades) → hearts ≡ strain_results hands (Trump Hearts) → diamonds ≡ strain_results hands (Trump Diamonds)
    → clubs ≡ strain_results hands (Trump Clubs) → notrump ≡ strain_results hands Notrump
    → flat_map (λ row. row) (spades ∷ hearts ∷ diamonds ∷ clubs ∷ notrump ∷ []) ≡ results hands
unfolding results contracts
results-strains hands spades hearts diamonds clubs notrump of_spades of_hearts of_diamonds of_clubs of_notrump =
    rw (of_spades, of_hearts, of_diamonds, of_clubs, of_notrump) refl
