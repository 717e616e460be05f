-- What a spike does to a part of a byte string, and what the check words see of it. What lies of a spike in a part of the string is a spike
-- of no more places. Sealed bytes are told by their ten bits, a command by its fifteen: the widths stand here, and the law is that of bursts.
-- Assumes nothing.
use mathlib.Core.Path.{◌≡◌, refl, sym, ap, ◌∙◌}
use mathlib.Core.Bool.{Bool, true, false}
use mathlib.Core.List.{List}
use Prim.Native.Nat.{ℕ, ◌+◌, ◌-◌, ◌*◌, ◌≤◌, ◌<◌, min}
use native.Mathlib.Decide.{dec_lt}
use native.Mathlib.Omega.{arith}
use lib.Dec.{lit<}
use lib.ListN.{length, get_or, take, drop, length-take, length-drop, get_or-eq_default}
use lib.Seq.{get_or-take, get_or-drop}
use Rattle.laws.specs.Bits.{bits_of_bytes, Bytes}
use Rattle.laws.proofs.BitStrings.{length-bits_of_bytes, bits_take, bits_drop, bytes-told}
use Rattle.pec.specs.Words.{polynomial15, command_right, polynomial10, sealed_right, payload_right}
use Rattle.pec.specs.Spikes.{Burst, Spike}
use Rattle.pec.proofs.CheckWords.{ends_10, ends_15}
use Rattle.pec.proofs.Messages.{bytes_of-take, bytes_of-drop}
use Rattle.pec.proofs.Bursts.{burst-seen}
use Rattle.pec.proofs.Right.{payload_left, command-left}

-- ---- a part of a string of bits

module _ {w : ℕ} {sent came : List Bool} (b : Burst w sent came) (m : ℕ) where
  burst-drop : (drop m came ≡ drop m sent → ⊥) → Burst w (drop m sent) (drop m came)
  burst-drop some =
      record {
        as_long = length-drop m came ∙ ap (λ (n : ℕ). n - m) b.as_long ∙ sym (length-drop m sent);
        some = some;
        first = b.first - m;
        before = λ i h. at i (b.before (m + i) (omega arith));
        behind = λ i h. at i (b.behind (m + i) (omega arith));
      }
    where
      at : (i : ℕ) → get_or came (m + i) false ≡ get_or sent (m + i) false → get_or (drop m came) i false ≡ get_or (drop m sent) i false
      at i e = get_or-drop m came i false ∙ e ∙ sym (get_or-drop m sent i false)

  burst-take : (take m came ≡ take m sent → ⊥) → Burst w (take m sent) (take m came)
  burst-take some =
      record {
        as_long = length-take m came ∙ ap (min m) b.as_long ∙ sym (length-take m sent);
        some = some;
        first = b.first;
        before = λ i h. at i (b.before i h);
        behind = λ i h. at i (b.behind i h);
      }
    where
      past : (i : ℕ) (bs : List Bool) → m ≤ i → get_or (take m bs) i false ≡ false
      past i bs h = get_or-eq_default (take m bs) false (omega (arith, length-take m bs))

      at : (i : ℕ) → get_or came i false ≡ get_or sent i false → get_or (take m came) i false ≡ get_or (take m sent) i false
      at i e = by (dec_lt i m)
        where
          by : Dec (i < m) → get_or (take m came) i false ≡ get_or (take m sent) i false
          by (yes h) = get_or-take m came i false h ∙ e ∙ sym (get_or-take m sent i false h)
          by (no h) = past i came (omega arith) ∙ sym (past i sent (omega arith))

-- ---- a spike is one of more places too

pub spike_wider : {v w : ℕ} {sent came : List ℕ} → v ≤ w → Spike v sent came → Spike w sent came
spike_wider h s =
    let b = s.burst in
    record {
      sent_bytes = s.sent_bytes;
      came-bytes = s.came-bytes;
      burst = record { as_long = b.as_long; some = b.some; first = b.first; before = b.before; behind = λ i l. b.behind i (omega arith) };
    }

-- ---- told by its parts

-- bytes whose bits came as they were sent before a place, otherwise at it, and as they were sent behind w places from it on
pub spike_of_parts : (w first : ℕ) {sent came : List ℕ} → Bytes sent → Bytes came → length (bits_of_bytes came) ≡ length (bits_of_bytes sent)
    → take first (bits_of_bytes came) ≡ take first (bits_of_bytes sent) → (get_or (bits_of_bytes came) first false ≡ get_or (bits_of_bytes sent) first false → ⊥)
    → drop (first + w) (bits_of_bytes came) ≡ drop (first + w) (bits_of_bytes sent) → Spike w sent came
spike_of_parts w first {sent} {came} sent_bytes came-bytes as_long front there end =
    record {
      sent_bytes = sent_bytes;
      came-bytes = came-bytes;
      burst = record {
        as_long = as_long;
        some = λ e. there (ap (λ (bs : List Bool). get_or bs first false) e);
        first = first;
        before = λ i h. sym (get_or-take first (bits_of_bytes came) i false h) ∙ ap (λ (bs : List Bool). get_or bs i false) front ∙ get_or-take first (bits_of_bytes sent) i false h;
        behind = λ i h.
            let on : i ≡ first + w + (i - (first + w)) = omega arith in
            at (bits_of_bytes came) i on ∙ ap (λ (bs : List Bool). get_or bs (i - (first + w)) false) end ∙ sym (at (bits_of_bytes sent) i on);
      };
    }
  where
    at : (bs : List Bool) (i : ℕ) → i ≡ first + w + (i - (first + w)) → get_or bs i false ≡ get_or (drop (first + w) bs) (i - (first + w)) false
    at bs i e = ap (λ (j : ℕ). get_or bs j false) e ∙ sym (get_or-drop (first + w) bs (i - (first + w)) false)

-- ---- a part of a byte string

module _ {w : ℕ} {sent came : List ℕ} (s : Spike w sent came) where
  -- as many bytes came as were sent
  pub spike-long : length came ≡ length sent
  spike-long = omega (arith, s.burst.as_long, length-bits_of_bytes came, length-bits_of_bytes sent)

  -- not all as they were
  pub spike-some : came ≡ sent → ⊥
  spike-some e = s.burst.some (ap bits_of_bytes e)

  -- a part that was hit: of bytes, and of their bits
  part_struck : (of : List ℕ → List ℕ) (of-bits : List Bool → List Bool) → ((bytes : List ℕ) → Bytes bytes → Bytes (of bytes))
      → ((bytes : List ℕ) → bits_of_bytes (of bytes) ≡ of-bits (bits_of_bytes bytes))
      → ((of-bits (bits_of_bytes came) ≡ of-bits (bits_of_bytes sent) → ⊥) → Burst w (of-bits (bits_of_bytes sent)) (of-bits (bits_of_bytes came)))
      → (of came ≡ of sent → ⊥) → Spike w (of sent) (of came)
  part_struck of of-bits bytes bits burst hit =
      let of-sent = bytes sent s.sent_bytes in
      let of-came = bytes came s.came-bytes in
      record {
        sent_bytes = of-sent;
        came-bytes = of-came;
        burst = rw (bits sent, bits came) (burst (λ e. hit (bytes-told (of came) (of sent) of-came of-sent (bits came ∙ e ∙ sym (bits sent)))));
      }

  pub spike-drop : (m : ℕ) → (drop m came ≡ drop m sent → ⊥) → Spike w (drop m sent) (drop m came)
  spike-drop m = part_struck (drop m) (drop (8 * m)) (λ bytes h. bytes_of-drop bytes h m) (bits_drop m) (burst-drop s.burst (8 * m))

  pub spike-take : (m : ℕ) → (take m came ≡ take m sent → ⊥) → Spike w (take m sent) (take m came)
  spike-take m = part_struck (take m) (take (8 * m)) (λ bytes h. bytes_of-take bytes h m) (bits_take m) (burst-take s.burst (8 * m))

-- ---- what the check words see

-- of a test that cannot pass
fails : (b : Bool) → (b ≡ true → ⊥) → b ≡ false
fails true h = absurd (h refl)
fails false h = refl

module _ {sent came : List ℕ} where
  pub sealed_hit : (d : ℕ) → Spike 10 sent came → sealed_right d sent ≡ true → sealed_right d came ≡ false
  sealed_hit d s right =
      fails (sealed_right d came)
      (λ still. burst-seen 10 polynomial10 16 ends_10 (lit< tt) s.burst (payload_left d came s.came-bytes still ∙ sym (payload_left d sent s.sent_bytes right)))

  -- of six bytes
  pub payload_hit : Spike 10 sent came → payload_right sent ≡ true → payload_right came ≡ false
  unfolding payload_right
  payload_hit = sealed_hit 6

  pub command_hit : Spike 15 sent came → command_right sent ≡ true → command_right came ≡ false
  command_hit s right =
      fails (command_right came)
      (λ still. burst-seen 15 polynomial15 16 ends_15 (lit< tt) s.burst (command-left came s.came-bytes still ∙ sym (command-left sent s.sent_bytes right)))
