-- Inclusive or of numbers: what was set once is set for good. By binary digits, each of which is the greater of two.
-- Assumes nothing.
use mathlib.Core.Path.{◌≡◌, refl, sym, ap, ap₂, ◌∙◌}
use Prim.Native.Nat.{ℕ, ◌+◌, ◌*◌, ◌/◌, ◌%◌, ◌<◌, max}
use native.Mathlib.Nat.{mod-lt}
use native.Mathlib.Omega.{arith}
use lib.Arith.{bin_ind, digits_mod}
use lib.Bits.{bit_or, or_step, or_comm, or_shr, or_zero_l}

max-below : (x y : ℕ) → x < 2 → y < 2 → max x y < 2
max-below x y hx hy = omega arith

max_again : (x y : ℕ) → max x (max x y) ≡ max x y
max_again x y = omega arith

pub last_or : (a b : ℕ) → bit_or a b % 2 ≡ max (a % 2) (b % 2)
last_or a b =
    ap (λ (n : ℕ). n % 2) (or_step a b)
    ∙ digits_mod (bit_or (a / 2) (b / 2)) (max-below (a % 2) (b % 2) (mod-lt a (omega arith)) (mod-lt b (omega arith)))

pub or_again : (a b : ℕ) → bit_or a (bit_or a b) ≡ bit_or a b
or_again a =
    bin_ind (λ (n : ℕ). (b : ℕ) → bit_or n (bit_or n b) ≡ bit_or n b) (λ b. refl)
    (λ n ih b.
    or_step n (bit_or n b)
    ∙ ap₂ (λ (x y : ℕ). x * 2 + y) (ap (bit_or (n / 2)) (or_shr n b 1) ∙ ih (b / 2)) (ap (max (n % 2)) (last_or n b) ∙ max_again (n % 2) (b % 2))
    ∙ sym (or_step n b))
    a

-- and from the other side
pub or_once_more : (a b : ℕ) → bit_or (bit_or a b) b ≡ bit_or a b
or_once_more a b = or_comm (bit_or a b) b ∙ ap (bit_or b) (or_comm a b) ∙ or_again b a ∙ or_comm b a

-- nothing set, so nothing set on either side
pub or_none : (a b : ℕ) → bit_or a b ≡ 0 → a ≡ 0
or_none a b e = sym (or_zero_l a) ∙ or_comm 0 a ∙ ap (bit_or a) (sym e) ∙ or_again a b ∙ e

-- of three
max_assoc : (x y z : ℕ) → max (max x y) z ≡ max x (max y z)
max_assoc x y z = omega arith

pub or_assoc : (a b c : ℕ) → bit_or (bit_or a b) c ≡ bit_or a (bit_or b c)
or_assoc a =
    bin_ind (λ (n : ℕ). (b c : ℕ) → bit_or (bit_or n b) c ≡ bit_or n (bit_or b c)) (λ b c. refl)
    (λ n ih b c.
    or_step (bit_or n b) c
    ∙ ap₂ (λ (x y : ℕ). x * 2 + y)
    (ap (λ (x : ℕ). bit_or x (c / 2)) (or_shr n b 1) ∙ ih (b / 2) (c / 2) ∙ ap (bit_or (n / 2)) (sym (or_shr b c 1)))
    (ap (λ (x : ℕ). max x (c % 2)) (last_or n b) ∙ max_assoc (n % 2) (b % 2) (c % 2) ∙ ap (max (n % 2)) (sym (last_or b c)))
    ∙ sym (or_step n (bit_or b c)))
    a
