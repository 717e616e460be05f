-- `releasing::looks::window_in` meets its contract: in each kind of frame the part is where the window's bytes lie.
-- Assumes nothing.
use mathlib.Core.Path.{◌≡◌, sym, ap, ap₂, ◌∙◌}
use mathlib.Core.List.{List, []}
use Prim.Native.Nat.{ℕ, ◌+◌, ◌-◌, ◌*◌, ◌≤◌, ◌<◌}
use native.Mathlib.Omega.{arith}
use lib.ListN.{get_or, take, drop}
use Rattle.records.specs.Commands.{most_monitors, payload_size}
use Rattle.clock_state.specs.declared.state.Kind.{Kind}
use Rattle.clock_state.specs.declared.state.Kind.TheVariants.{Fills}
use Rattle.clock_state.specs.State.{windows_at, seen_in, kind_in, chained_in, width_in, register_in}
use Rattle.clock_state.proofs.Widths.{wide_fills}
use Rattle.clocking.specs.Bytes.{windows_in, clock_of}
use Rattle.clocking.proofs.Register.{register-fits, come, next_place, fills_at, drains_at, still_at}
use borrow.Author.Rules.{rules}
use Rattle.releasing.proofs.looks.window_in.Goals as goal

-- a write's windows up to the one at k fit a state, and have the bytes of one
record Place (w n k : ℕ) : Type 0 where
  most : w ≤ payload_size
  room : w * (n - k) ≤ payload_size * most_monitors
  own : w ≤ w * (n - k)

place : (s : List ℕ) {w n k : ℕ} → kind_in s ≡ Fills w → n ≤ most_monitors → k < n → Place w n k
place s {w} e few h = let wide = wide_fills s e in record { most = wide.most; room = register-fits wide (omega arith); own = omega (arith, next_place w h) }

-- the window at k by the kind and N that the code read
lies : (s : List ℕ) (k : ℕ) {kind : Kind} {n : ℕ} → kind_in s ≡ kind → n ≡ chained_in s
    → get_or (windows_in kind (seen_in s) n (register_in (width_in kind) n s)) k [] ≡ get_or (clock_of s).windows k []
unfolding clock_of
lies s k e f = ap₂ (λ (kind : Kind) (n : ℕ). get_or (windows_in kind (seen_in s) n (register_in (width_in kind) n s)) k []) (sym e) f

pub overflow_mul-end : goal.overflow_mul-end
overflow_mul-end c =
    let start = c in
    let fits = place start.args.state.now (sym c.in-Fills.ensures) start.requires.1 start.requires.2 in
    search rules

pub overflow_add-end : goal.overflow_add-end
overflow_add-end c =
    let start = c in
    let fits = place start.args.state.now (sym c.in-Fills.ensures) start.requires.1 start.requires.2 in
    search rules

pub held_by-requires : goal.held_by-requires
held_by-requires c =
    let start = c in
    let fits = place start.args.state.now (sym c.in-Fills.ensures) start.requires.1 start.requires.2 in
    search rules

pub overflow_sub-at : goal.overflow_sub-at
overflow_sub-at c =
    let start = c in
    let fits = place start.args.state.now (sym c.in-Fills.ensures) start.requires.1 start.requires.2 in
    search rules

pub slice_bounds-result-end : goal.slice_bounds-result-end
slice_bounds-result-end c =
    let start = c in
    let fits = place start.args.state.now (sym c.in-Fills.ensures) start.requires.1 start.requires.2 in
    search rules

pub returns-in-Fills : goal.returns-in-Fills
returns-in-Fills c =
    let start = c in
    let a = start.args in
    let s = a.state.now in
    let w = c.in-Fills.width in
    let kind : kind_in s ≡ Fills w = sym c.in-Fills.ensures in
    let end = windows_at + w * (a.n - a.k) in
    let held : c.held_by.result ≡ come w (seen_in s) a.k = c.held_by.ensures ∙ ap (λ (seen : ℕ). come w seen a.k) c.seen_in.ensures.value in
    let own = (place s kind start.requires.1 start.requires.2).own in
    let size : end - (end - c.held_by.result) ≡ come w (seen_in s) a.k = omega (arith, held) in
    ap₂ (λ (m at : ℕ). take m (drop at s)) size (ap (λ (m : ℕ). end - m) held)
    ∙ sym (fills_at w (seen_in s) a.n a.k s start.requires.2)
    ∙ lies s a.k kind start.requires.0

pub returns-in-Drains : goal.returns-in-Drains
returns-in-Drains c =
    let a = c.args in
    let s = a.state.now in
    let at = windows_at + payload_size * a.k in
    let size : at + payload_size - at ≡ payload_size = omega arith in
    ap (λ (m : ℕ). take m (drop at s)) size
    ∙ sym (drains_at (seen_in s) a.n a.k s c.requires.2)
    ∙ lies s a.k (sym c.in-Drains.ensures) c.requires.0

pub returns-in-Still : goal.returns-in-Still
returns-in-Still c =
    let a = c.args in
    let s = a.state.now in
    sym (still_at (seen_in s) a.n a.k (register_in payload_size a.n s))
    ∙ lies s a.k (sym c.in-Still.ensures) c.requires.0
