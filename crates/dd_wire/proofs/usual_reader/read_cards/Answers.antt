use Rattle.std.proofs.Common.{◌≡◌, ℕ, List, [], ◌∷◌, ◌++◌, refl, ap, subst, map, rules}
use Rattle.json.specs.Lex.{fresh, after_value, after_comma}
use Rattle.serde_json.specs.Data.{Items, array, item, no_items}
use Rattle.dd_wire.specs.Requests.{pair_of_card}
use Rattle.dd_wire.specs.UsualLines.{AreItems, items_of_pair, pairs_before}
use Rattle.dd_wire.proofs.UsualValues.{items-more, items-comma, items-end}
use Rattle.dd_wire.proofs.usual_reader.read_cards.Goals as goal

-- a pair at the end of pairs is the first of what follows them
pairs-push : (pairs : List (ℕ × ℕ)) (pair : ℕ × ℕ) (items : Items) → pairs_before pairs (item (array (items_of_pair pair)) items) ≡ pairs_before (pairs ++ pair ∷ []) items
pairs-push [] pair items = refl
pairs-push (p ∷ pairs) pair items = ap (item (array (items_of_pair p))) (pairs-push pairs pair items)

pub cards-init : goal.cards-init
cards-init c =
    let none : c.new.result.items ≡ [] = search rules in
    let played = c.in_ok-cards.ensures [] (refl, ap (map pair_of_card) none) in
    (c.in_ok-pair.pair ∷ [], (played.0, played.1), λ items end more. items-more fresh refl c.in_ok-pair.ensures more)

pub cards-preserved : goal.cards-preserved
cards-preserved c =
    let pairs = c.cards.invariant.0 in
    let pair = c.in_ok-next.next in
    let played = c.in_ok-cards-2.ensures pairs (c.cards.invariant.1.0, c.cards.invariant.1.1) in (
      pairs ++ pair ∷ [],
      (played.0, played.1),
      λ items end more.
          subst (λ (all : Items). AreItems 1 fresh c.args.text.now all end) (pairs-push pairs pair items)
          (c.cards.invariant.2 (item (array (items_of_pair pair)) items) end (items-comma c.in_ok-after_comma.ensures (items-more after_comma refl c.in_ok-next.ensures more))),
    )

pub returns-in-Some : goal.returns-in-Some
returns-in-Some c =
    rw (c.of.ensures, c.cards.invariant.1.1) (c.cards.invariant.2 no_items c.in-Some.end.now (items-end after_value refl c.in-Some.ensures))
