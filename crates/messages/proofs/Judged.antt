-- The verdicts: each is given exactly where what it says is so. Of a message that came as it was sent: passed exactly where its count and its
-- flags are the final pass value, and else failed, with these.
-- Assumes nothing.
use mathlib.Core.Path.{◌≡◌, refl, sym, ◌∙◌, subst, subst⁻¹}
use mathlib.Core.Bool.{Bool, true, false, ◌&&◌}
use mathlib.Core.List.{List}
use mathlib.Core.Logic.{inl, inr, ◌↔◌}
use Prim.Native.Nat.{ℕ}
use native.Mathlib.Omega.{arith}
use lib.Dec.{eqb}
use lib.ListN.{length}
use borrow.Author.Tests.{eq-eqb, ne_eqb, eqb-true, eqb-false}
use Rattle.refusals.specs.declared.Refusal.TheVariants.{LengthWrong}
use Rattle.refusals.specs.Order.{decide}
use Rattle.messages.specs.declared.verdicts.Verdict.{Verdict}
use Rattle.messages.specs.declared.verdicts.Verdict.TheVariants.{Passed, Failed, Damaged, TimedOut}
use Rattle.messages.specs.Messages.{message_size, pass_count, is_pass, message, count_in, flags_in, message_right}
use Rattle.messages.specs.Verdicts.{verdict_refusals, verdict_of, verdict, Says}
use Rattle.messages.proofs.Sent.{right-long, message-long, message-right, message-count, message-flags}
use Rattle.std.specs.Prelude.{Result, Err, Ok}
use Rattle.refusals.specs.declared.Refusal.{Refusal}

pub not_both : (b : Bool) → b ≡ true → b ≡ false → ⊥
not_both b e f = let z : ◌≡◌ {A = ℕ} 0 1 = cc in omega arith

-- the final pass value, and what is not
a_pass : is_pass pass_count 0 ≡ true
unfolding is_pass
a_pass = refl

no_pass : (c f : ℕ) → ((c ≡ pass_count) × (f ≡ 0) → ⊥) → is_pass c f ≡ false
unfolding is_pass
no_pass c f h = by (eqb c pass_count) refl (eqb f 0) refl
  where
    by : (b : Bool) → eqb c pass_count ≡ b → (d : Bool) → eqb f 0 ≡ d → b && d ≡ false
    by true b true d = absurd (h (eqb-true c pass_count b, eqb-true f 0 d))
    by true b false d = refl
    by false b d e = refl

module _ (bytes : List ℕ) where
  abbrev size : ℕ
  size = length bytes

  -- ---- what a verdict says gives it

  pub said : (late : Bool) (v : Result Verdict Refusal) → Says bytes late v → verdict bytes late ≡ v
  unfolding verdict verdict_refusals verdict_of decide
  said true (Err r) h = simp (ne_eqb size message_size h.1, ne_eqb size 0 (λ e. h.2 (refl, e)), h.0)
  said false (Err r) h = simp (ne_eqb size message_size h.1, h.0)
  said late (Ok Passed) h = simp (h.0, eq-eqb size message_size (right-long bytes h.1), h.1, h.2, h.3, a_pass)
  said late (Ok (Failed c f)) h = simp (h.0, eq-eqb size message_size (right-long bytes h.1), h.1, h.2, h.3, no_pass c f h.4)
  said late (Ok Damaged) h = simp (h.0, eq-eqb size message_size h.1, h.2)
  said true (Ok TimedOut) (e, inl l) = simp (eq-eqb size message_size l)
  said true (Ok TimedOut) (e, inr n) = simp (ne_eqb size message_size (λ l. omega arith), eq-eqb size 0 n)
  said false (Ok TimedOut) (e, h) = absurd (not_both false e refl)

  told : (late : Bool) (v : Result Verdict Refusal) → Says bytes late v → Says bytes late (verdict bytes late)
  told late v h = subst⁻¹ (λ (w : Result Verdict Refusal). Says bytes late w) (said late v h) h

  -- ---- what it says is so

  pub says : (late : Bool) → Says bytes late (verdict bytes late)
  says true = by (eqb size message_size) refl (eqb size 0) refl
    where
      by : (l : Bool) → eqb size message_size ≡ l → (n : Bool) → eqb size 0 ≡ n → Says bytes true (verdict bytes true)
      by true l n en = told true (Ok TimedOut) (refl, inl (eqb-true size message_size l))
      by false l true n = told true (Ok TimedOut) (refl, inr (eqb-true size 0 n))
      by false l false n = told true (Err LengthWrong) (refl, eqb-false size message_size l, λ h. eqb-false size 0 n h.1)
  says false = by (eqb size message_size) refl (message_right bytes) refl
    where
      right : message_right bytes ≡ true → (c : Bool) → eqb (count_in bytes) pass_count ≡ c → (f : Bool) → eqb (flags_in bytes) 0 ≡ f → Says bytes false (verdict bytes false)
      right r true c true f = told false (Ok Passed) (refl, r, eqb-true (count_in bytes) pass_count c, eqb-true (flags_in bytes) 0 f)
      right r true c false f = told false (Ok (Failed (count_in bytes) (flags_in bytes))) (refl, r, refl, refl, λ h. eqb-false (flags_in bytes) 0 f h.1)
      right r false c b f = told false (Ok (Failed (count_in bytes) (flags_in bytes))) (refl, r, refl, refl, λ h. eqb-false (count_in bytes) pass_count c h.0)

      by : (l : Bool) → eqb size message_size ≡ l → (r : Bool) → message_right bytes ≡ r → Says bytes false (verdict bytes false)
      by false l r er = told false (Err LengthWrong) (refl, eqb-false size message_size l, λ h. not_both false h.0 refl)
      by true l false r = told false (Ok Damaged) (refl, eqb-true size message_size l, r)
      by true l true r = right r (eqb (count_in bytes) pass_count) refl (eqb (flags_in bytes) 0) refl

  -- ---- both

  pub exactly : (late : Bool) (v : Result Verdict Refusal) → (verdict bytes late ≡ v) ↔ Says bytes late v
  exactly late v = (λ e. subst (λ (w : Result Verdict Refusal). Says bytes late w) e (says late), said late v)

-- ---- a message that came as it was sent

module _ (count flags : ℕ) where
  pub sent_passed : (verdict (message count flags) false ≡ Ok Passed) ↔ ((count ≡ pass_count) × (flags ≡ 0))
  sent_passed = (
    λ e. let h = (exactly (message count flags) false (Ok Passed)).0 e in (sym (message-count count flags) ∙ h.2, sym (message-flags count flags) ∙ h.3),
    λ h. said (message count flags) false (Ok Passed) (refl, message-right count flags, message-count count flags ∙ h.0, message-flags count flags ∙ h.1),
  )

  pub sent_failed : ((count ≡ pass_count) × (flags ≡ 0) → ⊥) → verdict (message count flags) false ≡ Ok (Failed count flags)
  sent_failed h = said (message count flags) false (Ok (Failed count flags)) (refl, message-right count flags, message-count count flags, message-flags count flags, h)

  -- too late it is not looked at
  pub sent_late : verdict (message count flags) true ≡ Ok TimedOut
  sent_late = said (message count flags) true (Ok TimedOut) (refl, inl (message-long count flags))
