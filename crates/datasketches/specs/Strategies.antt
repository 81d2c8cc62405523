-- When the two extending strategies feed equal bytes.
use Rattle.std.specs.Prelude.{◌≡◌, ◌↔◌, ℕ, ◌-◌, ◌^◌, ◌<◌, ℤ, pos, neg_ℤ, ◌≤ℤ◌, ◌<ℤ◌, List}
use Rattle.sketch_base.specs.Bytes.{modulo}
use Rattle.sketch_hash.specs.contracts.hash.value.natural_extend.NaturalExtendStrategyHashStrategyI8.TheImpl as natural_i8
use Rattle.sketch_hash.specs.contracts.hash.value.natural_extend.NaturalExtendStrategyHashStrategyU8.TheImpl as natural_u8
use Rattle.sketch_hash.specs.contracts.hash.value.natural_extend.NaturalExtendStrategyHashStrategyI16.TheImpl as natural_i16
use Rattle.sketch_hash.specs.contracts.hash.value.natural_extend.NaturalExtendStrategyHashStrategyU16.TheImpl as natural_u16
use Rattle.sketch_hash.specs.contracts.hash.value.natural_extend.NaturalExtendStrategyHashStrategyI32.TheImpl as natural_i32
use Rattle.sketch_hash.specs.contracts.hash.value.natural_extend.NaturalExtendStrategyHashStrategyU32.TheImpl as natural_u32
use Rattle.sketch_hash.specs.contracts.hash.value.natural_extend.NaturalExtendStrategyHashStrategyI64.TheImpl as natural_i64
use Rattle.sketch_hash.specs.contracts.hash.value.natural_extend.NaturalExtendStrategyHashStrategyU64.TheImpl as natural_u64
use Rattle.sketch_hash.specs.contracts.hash.value.sign_extend.SignExtendStrategyHashStrategyI8.TheImpl as sign_i8
use Rattle.sketch_hash.specs.contracts.hash.value.sign_extend.SignExtendStrategyHashStrategyU8.TheImpl as sign_u8
use Rattle.sketch_hash.specs.contracts.hash.value.sign_extend.SignExtendStrategyHashStrategyI16.TheImpl as sign_i16
use Rattle.sketch_hash.specs.contracts.hash.value.sign_extend.SignExtendStrategyHashStrategyU16.TheImpl as sign_u16
use Rattle.sketch_hash.specs.contracts.hash.value.sign_extend.SignExtendStrategyHashStrategyI32.TheImpl as sign_i32
use Rattle.sketch_hash.specs.contracts.hash.value.sign_extend.SignExtendStrategyHashStrategyU32.TheImpl as sign_u32
use Rattle.sketch_hash.specs.contracts.hash.value.sign_extend.SignExtendStrategyHashStrategyI64.TheImpl as sign_i64
use Rattle.sketch_hash.specs.contracts.hash.value.sign_extend.SignExtendStrategyHashStrategyU64.TheImpl as sign_u64

-- a signed integer of w bits
abbrev pub IsSigned : ℕ → ℤ → Type 0
IsSigned w x = (neg_ℤ (pos (2 ^ (w - 1))) ≤ℤ x) × (x <ℤ pos (2 ^ (w - 1)))

-- What two strategies feed for the signed and the unsigned integers of w bits, where the first
-- extends by value and the second by sign: both feed the same for a signed integer, and for an
-- unsigned one exactly if its top bit is clear. By sign, a signed and an unsigned one feed the same
-- exactly if they agree modulo 2 ^ w.
pub record ExtendLawAt (w : ℕ) (natural_signed : ℤ → List ℕ) (natural_unsigned : ℕ → List ℕ)
    (sign_signed : ℤ → List ℕ) (sign_unsigned : ℕ → List ℕ) : Type 0 where
  pub signed_alike : (x : ℤ) → natural_signed x ≡ sign_signed x
  pub unsigned_alike : (y : ℕ) → y < 2 ^ w →
      (natural_unsigned y ≡ sign_unsigned y) ↔ (y < 2 ^ (w - 1))
  pub across : (x : ℤ) (y : ℕ) → IsSigned w x → y < 2 ^ w →
      (sign_signed x ≡ sign_unsigned y) ↔ (modulo w x ≡ modulo w (pos y))

-- What two strategies feed for the integers of 64 bits: both feed the same for every value. A
-- signed and an unsigned one feed the same exactly if they agree modulo 2 ^ 64.
pub record ExtendLawAt64 (natural_signed : ℤ → List ℕ) (natural_unsigned : ℕ → List ℕ)
    (sign_signed : ℤ → List ℕ) (sign_unsigned : ℕ → List ℕ) : Type 0 where
  pub signed_alike : (x : ℤ) → natural_signed x ≡ sign_signed x
  pub unsigned_alike : (y : ℕ) → y < 2 ^ 64 → natural_unsigned y ≡ sign_unsigned y
  pub across : (x : ℤ) (y : ℕ) → IsSigned 64 x → y < 2 ^ 64 →
      (sign_signed x ≡ sign_unsigned y) ↔ (modulo 64 x ≡ modulo 64 (pos y))

-- both laws, of NaturalExtendStrategy and SignExtendStrategy at each width
pub record ExtendLaw : Type 0 where
  pub bits_8 : ExtendLawAt 8 (natural_i8.ghosts).fed (natural_u8.ghosts).fed
      (sign_i8.ghosts).fed (sign_u8.ghosts).fed
  pub bits_16 : ExtendLawAt 16 (natural_i16.ghosts).fed (natural_u16.ghosts).fed
      (sign_i16.ghosts).fed (sign_u16.ghosts).fed
  pub bits_32 : ExtendLawAt 32 (natural_i32.ghosts).fed (natural_u32.ghosts).fed
      (sign_i32.ghosts).fed (sign_u32.ghosts).fed
  pub bits_64 : ExtendLawAt64 (natural_i64.ghosts).fed (natural_u64.ghosts).fed
      (sign_i64.ghosts).fed (sign_u64.ghosts).fed
