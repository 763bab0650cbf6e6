-- The rows that the chain makes, one by one behind those in the array: what is written and what is left to write stay
-- the listing.
use mathlib.Core.Path.{◌≡◌, sym, ◌∙◌}
use mathlib.Core.List.{List, [], ◌∷◌, ◌++◌, append-nil, append_assoc}
use Prim.Native.Nat.{ℕ, suc, ◌+◌, ◌-◌, ◌*◌, ◌<◌}
use native.Mathlib.Omega.{arith}
use lib.ListN.{length, get_or, set, take, length-set}
use Rattle.limits.specs.Limits.{most_numbers}
use Rattle.trees.proofs.AddedRows.{row_stored}
use Rattle.rerooted_rows.specs.declared.Rerooting.{Rerooting}
use Rattle.rerooted_rows.specs.inner.Joining.{chain_rows}
use Rattle.rerooted_rows.specs.inner.Arrays.{backwards, with_chain, ChainFits}

-- after r rows, where there are `end` in the end: as many numbers of the chain are left as rows
pub record ChainWritten (n : ℕ) (R : Rerooting) (rows : List ℕ) (end r above : ℕ) : Type 0 where
  pub fits : ChainFits n R
  pub long : length rows ≡ most_numbers
  pub end_is : end ≡ R.made + (R.chained - 1)
  pub so_far : take (2 * r) rows ++ chain_rows (n + r) above (backwards (end - r) R.chain) ≡ with_chain n R

module _ {n end : ℕ} {R : Rerooting} where
  pub chain_start :
      ChainFits n R → end ≡ R.made + (R.chained - 1)
      → ChainWritten n R R.rows end R.made (get_or R.chain (R.chained - 1) 0)
  unfolding with_chain
  chain_start F e =
      let left : end - R.made ≡ R.chained - 1 = omega (arith, e) in
      record { fits = F; long = F.rows_long; end_is = e; so_far = rw left }

  pub chain_more :
      {rows : List ℕ} {r above : ℕ} → r < end → ChainWritten n R rows end r above
      → ChainWritten n R (set (set rows (2 * r) above) (2 * r + 1) (get_or R.chain (end - r - 1) 0)) end (r + 1)
      (n + r)
  unfolding backwards chain_rows
  chain_more {rows} {r} {above} h H = record {
    fits = H.fits;
    long = length-set (set rows (2 * r) above) (2 * r + 1) c ∙ length-set rows (2 * r) above ∙ H.long;
    end_is = H.end_is;
    so_far =
        let was = rw back at H.so_far in
        rw (row_stored rows r above c room, next, left)
        (append_assoc (take (2 * r) rows) (above ∷ c ∷ []) _ ∙ was);
  }
    where
      c : ℕ
      c = get_or R.chain (end - r - 1) 0

      back : end - r ≡ suc (end - r - 1)
      back = omega arith

      left : end - (r + 1) ≡ end - r - 1
      left = omega arith

      next : n + (r + 1) ≡ suc (n + r)
      next = omega arith

      room : 2 * r + 1 < length rows
      room = omega (arith, H.end_is, H.long, H.fits.room)

  pub chain_end :
      {rows : List ℕ} {r above : ℕ} → r ≡ end → ChainWritten n R rows end r above
      → take (2 * end) rows ≡ with_chain n R
  unfolding backwards chain_rows
  chain_end {rows} {r} {above} e H =
      let none : end - end ≡ 0 = omega arith in
      sym (append-nil (take (2 * end) rows)) ∙ rw (e, none) at H.so_far
