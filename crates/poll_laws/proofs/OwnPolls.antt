-- A poll in which every record has one tree's own pairing sums to six times that tree's table: `own_poll`.
-- For i < j a quartet adds six sixths to cell (i, j) where i and j are two of its leaves, and the tree pairs them
-- against the other two. So the sum over all quartets is six times one over the other two leaves p < q, in each of the
-- six orders that i, j, p, q may have; and each p, q has just one of these.
use mathlib.Core.Path.{◌≡◌, refl, ap, sym, ◌∙◌}
use mathlib.Core.Logic.{◌⊎◌, inl, inr, ◌≢◌}
use mathlib.Core.Bool.{Bool, true, false, ◌&&◌, ◌||◌, or_comm, and-true, and-false}
use mathlib.Core.List.{List, [], ◌∷◌}
use mathlib.Core.Option.{none}
use Prim.Native.Nat.{ℕ, suc, ◌+◌, ◌*◌, ◌<◌}
use native.Mathlib.Omega.{arith}
use native.Mathlib.Decide.{dec_lt}
use borrow.Author.Tests.{ltb-true, eqb-true, ne_eqb}
use lib.Dec.{ltb, eqb}
use lib.ListN.{length}
use Rattle.base.specs.Numbers.{indicator}
use Rattle.base.specs.Lists.{all_in}
use Rattle.base.proofs.Bools.{bool?, never, is_false, and_both, and_is, eqb_same}
use Rattle.base.proofs.Counts.{indicator_or, indicator_none, indicator_when}
use Rattle.base.proofs.Sums.{sum2, sum2_ext}
use Rattle.limits.specs.declared.Kind.TheVariants.{Poll}
use Rattle.limits.specs.Limits.{scale_of}
use Rattle.trees.specs.Trees.{Tree, IsTree}
use Rattle.trees.specs.Quartets.{separates, paired, pairing, other, quartets}
use Rattle.trees.specs.Tables.{cell, HasTable}
use Rattle.trees.proofs.Quartets.{quartets_ij}
use Rattle.trees.proofs.Tables.{HasCells, rule_cell, of_cells}
use Rattle.trees.specs.Quartets.{Four}
use Rattle.trees.proofs.Pairings.{exactly_one, one_pairing}
use Rattle.refusals.specs.Refusals.{accepted}
use Rattle.refusals.proofs.Answers.{judged_none}
use Rattle.poll_rules.specs.declared.Record.{Record}
use Rattle.poll_rules.specs.declared.Quartet.{Quartet}
use Rattle.poll_rules.specs.Records.{four, quartets_of, is_of, record_refusal, records_refusal_from, records_refusal}
use Rattle.poll_rules.specs.Counts.{cell_of, beside, adds, poll_cell, poll_table}
use Rattle.poll_laws.specs.OwnPairings.{is_own}
use Rattle.poll_rules.specs.Operations.{poll_answer}
use Rattle.poll_rules.specs.inner.Quartets.{Leaves}
use Rattle.poll_rules.proofs.Counts.{of_four, adds_resolved, pairs_apart, poll_mirror}
use Rattle.poll_rules.proofs.Records.{passes_of, same_leaves}
use Rattle.poll_laws.proofs.FourSums.{sum2_six, sum4_ext, pairs_two}
use Rattle.poll_laws.proofs.FourSums.{only_ab, only_ac, only_ad, only_bc, only_bd, only_cd, total, total_sum}
use Rattle.poll_laws.proofs.FourSums.{rising, rising_lt, over, over_six}
use Rattle.poll_laws.proofs.Orders.{orders, no_order, one_order}
use Rattle.poll_laws.proofs.PairCells.{both_are, cell_rising}
use Rattle.poll_laws.proofs.AcceptedPolls.{AcceptedPoll, accepted_poll}
use Rattle.poll_laws.proofs.PollTables.{table_of_accepted}

-- what just one of three tests says, as a sum over the three
of_one :
    (x y z : Bool) (u v w k : ℕ) → exactly_one x y z ≡ true → (x ≡ true → k ≡ u) → (x ≡ false → y ≡ true → k ≡ v)
    → (x ≡ false → y ≡ false → k ≡ w) → k ≡ indicator x u + (indicator y v + indicator z w)
unfolding exactly_one
of_one true false false u v w k h f g e = f refl ∙ omega arith
of_one false true false u v w k h f g e = g refl refl ∙ omega arith
of_one false false true u v w k h f g e = e refl refl ∙ omega arith
of_one true true z u v w k h f g e = absurd (never h refl)
of_one true false true u v w k h f g e = absurd (never h refl)
of_one false true true u v w k h f g e = absurd (never h refl)
of_one false false false u v w k h f g e = absurd (never h refl)

-- i, j against p, q is p, q against i, j
paired_either : (T : Tree) (i j p q : ℕ) → paired T i j p q ≡ paired T p q i j
unfolding paired separates
paired_either T i j p q = simp or_comm

-- The record of a quartet with the tree's own pairing, and whether that puts i beside j.
own_record : Tree → Quartet → Record
own_record T q = of_four q.a q.b q.c q.d (pairing T q.a q.b q.c q.d)

own_beside : Tree → (i j : ℕ) → Quartet → ℕ
own_beside T i j q = indicator (beside (own_record T q).code (own_record T q) i j) 1

-- so the poll's cell is six times the sum over the quartets
same_record : (T : Tree) (q : Quartet) (r : Record) → is_of q r ≡ true → is_own T r ≡ true → r ≡ own_record T q
unfolding is_own own_record
same_record T q r h g =
    let e = same_leaves q r h in
    let code = eqb-true r.code (pairing T r.a r.b r.c r.d) g in
    rw (← e.0, ← e.1, ← e.2, ← e.3, ← code)

-- a pairing is 0, 1 or 2
pairing_lt : (T : Tree) (a b c d : ℕ) → pairing T a b c d < 3
unfolding pairing
pairing_lt T a b c d = elim (bool? (paired T a b c d)) [
  | inl x ↦ rw x (omega arith)
  | inr x ↦ elim (bool? (paired T a c b d)) [ inl y ↦ rw (x, y) (omega arith) | inr y ↦ rw (x, y) (omega arith) ]
]

six_times : (b : Bool) → indicator b (scale_of Poll) ≡ scale_of Poll * indicator b 1
six_times true = refl
six_times false = refl

own_adds : (T : Tree) (i j : ℕ) (q : Quartet) → adds (own_record T q) i j ≡ scale_of Poll * own_beside T i j q
unfolding own_beside own_record
own_adds T i j q =
    let r = own_record T q in
    let few = pairing_lt T q.a q.b q.c q.d in
    adds_resolved r r.code refl few i j ∙ six_times (beside r.code r i j)

own_total :
    (T : Tree) (i j k : ℕ) (Q : List Quartet) (R : List Record) → length R ≡ length Q
    → records_refusal_from k Q R ≡ none
    → all_in (is_own T) R ≡ true → poll_cell R i j ≡ scale_of Poll * total (own_beside T i j) Q
unfolding records_refusal_from all_in poll_cell total
own_total T i j k [] [] l h g = refl
own_total T i j k [] (r ∷ R) l h g = absurd (omega arith)
own_total T i j k (q ∷ Q) [] l h g = absurd (omega arith)
own_total T i j k (q ∷ Q) (r ∷ R) l h g =
    let x = judged_none (record_refusal k q r) (records_refusal_from (suc k) Q R ∷ []) h in
    let y = judged_none (records_refusal_from (suc k) Q R) [] x.1 in
    let z = and_both (is_own T r) (all_in (is_own T) R) g in
    rw (same_record T q r (passes_of k q r x.0) z.0)
    (omega (arith, own_adds T i j q, own_total T i j (suc k) Q R (omega arith) y.0 z.1))

-- where that pairing is p
own_pairing :
    (T : Tree) (i j a b c d p : ℕ) → pairing T a b c d ≡ p
    → own_beside T i j (four a b c d) ≡ indicator (beside p (own_record T (four a b c d)) i j) 1
unfolding own_beside own_record
own_pairing T i j a b c d p e = ap (λ k. indicator (beside k (own_record T (four a b c d)) i j) 1) e

-- four leaves that rise are four different leaves
rising_four : (n a b c d : ℕ) → Leaves n a b c d → Four n a b c d
rising_four n a b c d l = record {
  leaf_a = omega (arith, l.ab, l.bc, l.cd, l.dn);
  leaf_b = omega (arith, l.bc, l.cd, l.dn);
  leaf_c = omega (arith, l.cd, l.dn);
  leaf_d = l.dn;
  ab = λ e. omega (arith, l.ab);
  ac = λ e. omega (arith, l.ab, l.bc);
  ad = λ e. omega (arith, l.ab, l.bc, l.cd);
  bc = λ e. omega (arith, l.bc);
  bd = λ e. omega (arith, l.bc, l.cd);
  cd = λ e. omega (arith, l.cd);
}

leaves_rise : (n a b c d : ℕ) → rising a b c d ≡ true → d < n → Leaves n a b c d
leaves_rise n a b c d r l = let h = rising_lt a b c d r in record { ab = h.0; bc = h.1; cd = h.2; dn = l }

-- Cell (i, j) of the tree T, for i < j.
module _ (n : ℕ) (T : Tree) (t : IsTree n T) (i j : ℕ) (ij : i < j) (jn : j < n) where
  -- i is x, and j is y
  abbrev hits : ℕ → ℕ → Bool
  hits x y = eqb i x && eqb j y

  -- i and j are paired against p and q
  abbrev against : ℕ → ℕ → ℕ
  against p q = indicator (paired T i j p q) 1

  -- i and j are the one pair, or the other
  abbrev either : (x y z w : ℕ) → ℕ
  either x y z w = indicator (hits x y) (against z w) + indicator (hits z w) (against x y)

  hit : (x y p q : ℕ) → indicator (hits x y) (against p q) ≡ indicator (hits x y) (indicator (paired T x y p q) 1)
  hit x y p q = elim (bool? (hits x y)) [
    | inl h ↦ (let e = both_are i j x y h in rw (← e.0, ← e.1))
    | inr h ↦ rw h
  ]

  either_cell :
      (x y z w : ℕ) → x < y → z < w → x ≢ z → x ≢ w → y ≢ z → y ≢ w
      → either x y z w ≡ indicator (paired T x y z w) (indicator (cell_of x y i j || cell_of z w i j) 1)
  either_cell x y z w xy zw xz xw yz yw = elim (bool? (paired T x y z w)) [
    | inl e ↦
        rw (
          hit x y z w,
          hit z w x y,
          ← paired_either T x y z w,
          e,
          indicator_or (cell_of x y i j) (cell_of z w i j) 1 (pairs_apart x y z w i j xz xw yz yw),
          cell_rising x y i j xy ij,
          cell_rising z w i j zw ij,
        )
    | inr e ↦
        let none = indicator_none (hits x y) in
        rw (hit x y z w, hit z w x y, ← paired_either T x y z w, e, none, indicator_none (hits z w))
  ]

  own_either :
      (a b c d : ℕ) → Leaves n a b c d
      → own_beside T i j (four a b c d) ≡ either a b c d + (either a c b d + either a d b c)
  unfolding pairing beside own_record
  own_either a b c d l =
      let f = rising_four n a b c d l in
      let ac : a < c = omega (arith, l.ab, l.bc) in
      let bd : b < d = omega (arith, l.bc, l.cd) in
      let ad : a < d = omega (arith, l.ab, l.bc, l.cd) in
      rw (
        either_cell a b c d l.ab l.cd f.ac f.ad f.bc f.bd,
        either_cell a c b d ac bd f.ab f.ad (λ e. f.bc (sym e)) f.cd,
        either_cell a d b c ad l.bc f.ab f.ac (λ e. f.bd (sym e)) (λ e. f.cd (sym e)),
      )
      (of_one (paired T a b c d) (paired T a c b d) (paired T a d b c) _ _ _ _ (one_pairing n T t a b c d f)
      (λ x. own_pairing T i j a b c d 0 (rw x))
      (λ x y. own_pairing T i j a b c d 1 (rw (x, y)))
      (λ x y. own_pairing T i j a b c d 2 (rw (x, y))))

  -- over all that rise
  own_over : total (own_beside T i j) (quartets_of n)
      ≡ over n (λ a b c d. either a b c d + (either a c b d + either a d b c))
  own_over = total_sum n (own_beside T i j) ∙ sum4_ext n _ _ (λ a b c d la lb lc ld.
      indicator_when (rising a b c d) _ _ (λ r. own_either a b c d (leaves_rise n a b c d r ld)))

  miss : (x y : ℕ) → (x ≢ i) ⊎ (y ≢ j) → hits x y ≡ false
  miss x y h = is_false (hits x y) (λ e. let r = both_are i j x y e in elim h [
    | inl d ↦ d (sym r.0)
    | inr d ↦ d (sym r.1)
  ])

  gone : (a b c d x y k : ℕ) → (x ≢ i) ⊎ (y ≢ j) → indicator (rising a b c d) (indicator (hits x y) k) ≡ 0
  gone a b c d x y k h = rw (miss x y h) (indicator_none (rising a b c d))

  here : hits i j ≡ true
  here = and_is _ _ (eqb_same i) (eqb_same j)

  hi : i < n
  hi = omega arith

  -- the six ways
  over_ab :
      over n (λ a b c d. indicator (hits a b) (against c d)) ≡ sum2 n (λ p q. indicator (rising i j p q) (against p q))
  over_ab = only_ab n i j hi jn _ (λ a b c d. gone a b c d a b _) ∙ rw here

  over_cd :
      over n (λ a b c d. indicator (hits c d) (against a b)) ≡ sum2 n (λ p q. indicator (rising p q i j) (against p q))
  over_cd = only_cd n i j hi jn _ (λ a b c d. gone a b c d c d _) ∙ rw here

  over_ac :
      over n (λ a b c d. indicator (hits a c) (against b d)) ≡ sum2 n (λ p q. indicator (rising i p j q) (against p q))
  over_ac = only_ac n i j hi jn _ (λ a b c d. gone a b c d a c _) ∙ rw here

  over_bd :
      over n (λ a b c d. indicator (hits b d) (against a c)) ≡ sum2 n (λ p q. indicator (rising p i q j) (against p q))
  over_bd = only_bd n i j hi jn _ (λ a b c d. gone a b c d b d _) ∙ rw here

  over_ad :
      over n (λ a b c d. indicator (hits a d) (against b c)) ≡ sum2 n (λ p q. indicator (rising i p q j) (against p q))
  over_ad = only_ad n i j hi jn _ (λ a b c d. gone a b c d a d _) ∙ rw here

  over_bc :
      over n (λ a b c d. indicator (hits b c) (against a d)) ≡ sum2 n (λ p q. indicator (rising p i j q) (against p q))
  over_bc = only_bc n i j hi jn _ (λ a b c d. gone a b c d b c _) ∙ rw here

  -- together: the orders of i, j and p, q
  over_orders :
      over n (λ a b c d. either a b c d + (either a c b d + either a d b c))
      ≡ sum2 n (λ p q. orders i j ij p q (against p q))
  over_orders =
      over_six n (λ a b c d. indicator (hits a b) (against c d)) (λ a b c d. indicator (hits c d) (against a b))
      (λ a b c d. indicator (hits a c) (against b d)) (λ a b c d. indicator (hits b d) (against a c))
      (λ a b c d. indicator (hits a d) (against b c)) (λ a b c d. indicator (hits b c) (against a d))
      ∙ rw (over_ab, over_cd, over_ac, over_bd, over_ad, over_bc) (sym (sum2_six n _ _ _ _ _ _))

  orders_pass :
      (p q : ℕ)
      → orders i j ij p q (against p q)
      ≡ indicator (ltb p q) (indicator ((other i j p && other i j q) && paired T i j p q) 1)
  orders_pass p q = elim (bool? (paired T i j p q)) [
    | inr u ↦ rw (u, and-false (other i j p && other i j q), indicator_none (ltb p q)) (simp indicator_none)
    | inl h ↦ elim (bool? (ltb p q)) [
      | inl l ↦ rw (h, and-true (other i j p && other i j q)) (one_order i j ij p q (ltb-true p q l) ∙ rw l)
      | inr g ↦ no_order i j ij p q (against p q) g ∙ rw g
    ]
  ]

  own_cell : total (own_beside T i j) (quartets_of n) ≡ quartets n T i j
  unfolding quartets
  own_cell =
      own_over ∙ over_orders ∙ sum2_ext n _ _ (λ p q lp lq. orders_pass p q)
      ∙ rw (ne_eqb i j (λ e. omega arith)) (sym (pairs_two n (λ p q. (other i j p && other i j q) && paired T i j p q)))

-- The law: where a poll is accepted and every record has the tree's own pairing, the tree has the poll's table: each
-- cell is six times the tree's.
pub own_poll :
    (n : ℕ) (R : List Record) (room : ℕ) (t : List ℕ) → poll_answer n R room ≡ accepted t → (T : Tree) → IsTree n T
    → all_in (is_own T) R ≡ true → HasTable n (scale_of Poll) t T
unfolding poll_table
own_poll n R room t h T tree own =
    of_cells n (scale_of Poll) t T (table_of_accepted p) (λ i j hi hj d.
    ap (λ z. cell n z i j) (sym p.table) ∙ rule_cell n (poll_cell R) i j hi hj ∙ each i j hi hj d)
  where
    p : AcceptedPoll n R t
    p = accepted_poll n R room t h

    rising_cell : (i j : ℕ) → i < j → j < n → poll_cell R i j ≡ scale_of Poll * quartets n T i j
    rising_cell i j l m =
        own_total T i j 0 (quartets_of n) R p.due (unfold records_refusal in p.passed) own
        ∙ ap (λ z. scale_of Poll * z) (own_cell n T tree i j l m)

    each : HasCells n (scale_of Poll) (poll_cell R) T
    each i j hi hj d = elim (dec_lt i j) [
      | yes l ↦ rising_cell i j l hj
      | no g ↦
          poll_mirror R i j ∙ rising_cell j i (omega arith) hi
          ∙ ap (λ z. scale_of Poll * z) (quartets_ij n T j i)
    ]
