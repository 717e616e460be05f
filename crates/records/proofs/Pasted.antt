-- Bytes made anew that are a list's own: that list is pasted over them, as the library's methods of copying say it.
-- Assumes nothing.
use mathlib.Core.Path.{◌≡◌, refl, sym, ap₂, ◌∙◌}
use mathlib.Core.List.{List}
use Prim.Native.Nat.{ℕ, zero, suc, ◌+◌, ◌≤◌, ◌<◌}
use native.Mathlib.Omega.{arith}
use borrow.Rule.Slice.PartMut.{put_mid}
use lib.ListN.{length, get_or, set}
use lib.Seq.{paste, paste-zero, paste-suc}
use Rattle.std.proofs.lemmas.Slice.{put_mid-paste}
use Rattle.records.specs.Record.{anew}

pub anew-paste : (f : ℕ → ℕ → ℕ) (at n : ℕ) (r ys : List ℕ) → at + n ≤ length r → n ≤ length ys
    → ((i : ℕ) → i < n → get_or ys i 0 ≡ f i (get_or r (at + i) 0)) → paste r at ys n ≡ anew f at n r
unfolding anew
anew-paste f at zero r ys h k e = sym (paste-zero r at ys)
anew-paste f at (suc n) r ys h k e =
    sym (paste-suc r at ys n 0 (omega arith) (omega arith))
    ∙ ap₂ (λ (l : List ℕ) (v : ℕ). set l (at + n) v) (anew-paste f at n r ys (omega arith) (omega arith) (λ i b. e i (omega arith))) (e n (omega arith))

-- a part of a slice that was written whole
pub anew-put : (f : ℕ → ℕ → ℕ) (at n k : ℕ) (r ys : List ℕ) → k ≡ n → length ys ≡ n → at + n ≤ length r
    → ((i : ℕ) → i < n → get_or ys i 0 ≡ f i (get_or r (at + i) 0)) → put_mid at k r ys ≡ anew f at n r
anew-put f at n k r ys e l h each = put_mid-paste at k r ys ys n refl (sym e) (sym l) ∙ anew-paste f at n r ys h (omega arith) each
