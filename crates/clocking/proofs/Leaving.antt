-- The byte that leaves monitor 1, by what the later bytes of the frame do: only a known read lets one out, the first of its register.
-- Assumes nothing.
use mathlib.Core.Path.{◌≡◌, sym, ap, ◌∙◌}
use mathlib.Core.Bool.{Bool, cond}
use mathlib.Core.List.{List}
use Prim.Native.Nat.{ℕ, ◌<◌, ◌≤◌}
use lib.ListN.{get_or}
use borrow.Author.Tests.{lt-ltb, le-ltb}
use Rattle.records.specs.Commands.{payload_size}
use Rattle.clock_state.specs.declared.state.Kind.{Kind}
use Rattle.clock_state.specs.declared.state.Kind.TheVariants.{Fills, Drains, Still}
use Rattle.clocking.specs.Clock.{leaving, answered, far}
use Rattle.clock_state.specs.State.{seen_in, kind_in, chained_in, width_in, register_in}
use Rattle.clocking.specs.Bytes.{windows_in, clock_of}
use Rattle.clocking.proofs.Register.{leaves-first}

module _ (s : List ℕ) where
  abbrev pub leaves-now : ℕ
  leaves-now = leaving (clock_of s).kind (clock_of s).windows

  -- by a kind that the state has
  leaving-by : Kind → ℕ
  leaving-by kind = leaving kind (windows_in kind (seen_in s) (chained_in s) (register_in (width_in kind) (chained_in s) s))

  by_kind : (kind : Kind) → kind_in s ≡ kind → leaving-by kind ≡ leaves-now
  unfolding clock_of leaving-by
  by_kind kind e = ap leaving-by (sym e)

  pub fills_leaves : {w : ℕ} → kind_in s ≡ Fills w → far ≡ leaves-now
  unfolding leaving leaving-by
  fills_leaves {w} e = by_kind (Fills w) e

  pub drains_leaves : {first : ℕ} → kind_in s ≡ Drains → first ≡ get_or (register_in payload_size (chained_in s) s) 0 far → first ≡ leaves-now
  unfolding leaving leaving-by
  drains_leaves e f = f ∙ sym (leaves-first (seen_in s) (chained_in s) s) ∙ by_kind Drains e

  pub still_leaves : kind_in s ≡ Still → far ≡ leaves-now
  unfolding leaving leaving-by
  still_leaves e = by_kind Still e

  -- ---- the byte that comes back, by the byte's place in the frame

  pub answered-early : seen_in s < 4 → far ≡ answered (clock_of s)
  unfolding answered clock_of
  answered-early h = ap (λ (b : Bool). cond b far leaves-now) (sym (lt-ltb (seen_in s) 4 h))

  pub answered-later : 4 ≤ seen_in s → leaves-now ≡ answered (clock_of s)
  unfolding answered clock_of
  answered-later h = ap (λ (b : Bool). cond b far leaves-now) (sym (le-ltb (seen_in s) 4 h))
