-- A text that is read in pieces, and a file made of it.
use Rattle.std.proofs.Common.{◌≡◌, ◌≢◌, ◌≤◌, ◌+◌, ◌-◌, ℕ, Bool, false, List, [], ◌++◌, length, take, inl, inr, refl, sym, ap, subst, ◌∙◌, arith, append-nil, length-append}
use Rattle.std.proofs.lemmas.List.{length-take, length-take-le, take-append-le}
use Rattle.byte_io.specs.Moved.{Gave, GaveSome}
use Rattle.byte_io.proofs.Moved.{gave_none, gave_more, read_nothing}
use Rattle.tool_text.specs.Stream.{GaveMoreThan}
use Rattle.smf_make.specs.declared.fault.MakeFault.{MakeFault}
use Rattle.smf_make.specs.declared.fault.MakeFault.TheVariants.{Line, TooLarge, OutOfMemory, Read, TooLong}
use Rattle.smf_make.specs.declared.maker.Maker.{Maker}
use Rattle.smf_make.specs.Making.{IsMaking}
use Rattle.smf_make.specs.ReadInPart.{IsAsFar, IsPieceTaken, IsPieceRefused, IsTextEnded, IsTextUnended}
use Rattle.smf_make.specs.SaidFiles.{Unheaded, said_file}
use Rattle.smf_make.specs.Streamed.{most_text, IsTextMade, HasTextFault, IsTextRefused}
use Rattle.smf_make.proofs.Streaming.{IsOfText, said-fault}

-- no byte of a text has come
none-far : (m : Maker) → IsMaking m 0 Unheaded → IsAsFar m [] []
unfolding said_file
none-far m making = record { number = 0; begun = Unheaded; making = making; early = omega arith; unended = tt; same = λ rest. refl }

-- what a read gave, found at the beginning of the whole buffer
read-here : {R : Type 0} (HasLeft : R → List ℕ → Type 0) (s t : R) (window behind : List ℕ) (n : ℕ) → n ≤ length window → Gave HasLeft s (take n window) t → Gave HasLeft s (take n (window ++ behind)) t
read-here HasLeft s t window behind n h g = subst (λ (xs : List ℕ). Gave HasLeft s xs t) (sym (take-append-le n window behind h)) g

length-here : (window behind : List ℕ) (n : ℕ) → n ≤ length window → length (take n (window ++ behind)) ≡ n
length-here window behind n h = ap length (take-append-le n window behind h) ∙ length-take-le n window h

-- The reads gave a text, and a maker has taken all of it.
pub record IsRead {R : Type 0} (HasLeft : R → List ℕ → Type 0) (first now : R) (m : Maker) (kept : List ℕ) (room : ℕ) : Type 0 where
  pub read : List ℕ
  pub gave : Gave HasLeft first read now
  pub counted : length read + room ≡ most_text
  pub far : IsAsFar m kept read

module _ {R : Type 0} (HasLeft : R → List ℕ → Type 0) where
  pub none-read : (s : R) (m : Maker) (kept : List ℕ) → IsMaking m 0 Unheaded → kept ≡ [] → IsRead HasLeft s s m kept most_text
  none-read s m kept making none = record {
    read = [];
    gave = gave_none HasLeft s [] refl;
    counted = refl;
    far = subst (λ (xs : List ℕ). IsAsFar m xs []) (sym none) (none-far m making);
  }

  -- a text that has a fault has no other
  fault-of : (first now : R) (fault : MakeFault) → HasTextFault HasLeft first now fault → IsOfText fault
  fault-of first now fault h = elim h.said [
    | inl ended ↦ said-fault h.read fault ended.1
    | inr said ↦ said-fault (h.read ++ []) fault (said [])
  ]

  refused-by : (failed : R → Bool) (first now : R) (fault : MakeFault) → failed now ≡ false → (fault ≢ OutOfMemory → HasTextFault HasLeft first now fault) → IsTextRefused HasLeft failed first now fault
  refused-by failed first now (Line line expected) sound k = k (λ e. cc)
  refused-by failed first now (TooLarge line) sound k = k (λ e. cc)
  refused-by failed first now OutOfMemory sound k = sound
  refused-by failed first now Read sound k = absurd (fault-of first now Read (k (λ e. cc)))
  refused-by failed first now TooLong sound k = absurd (fault-of first now TooLong (k (λ e. cc)))

  module _ (first now after : R) (m : Maker) (kept : List ℕ) (room : ℕ) (r : IsRead HasLeft first now m kept room) where
    few : length r.read ≤ most_text
    few = omega (arith, r.counted)

    -- ---- a piece

    module _ (window behind : List ℕ) (n : ℕ) (h : n ≤ length window) (fits : n ≤ room) (g : Gave HasLeft now (take n window) after) where
      longer : length (r.read ++ take n (window ++ behind)) + (room - n) ≡ most_text
      longer = omega (arith, length-append r.read (take n (window ++ behind)), length-here window behind n h, r.counted)

      gave-both : Gave HasLeft first (r.read ++ take n (window ++ behind)) after
      gave-both = gave_more HasLeft first now after r.read (take n (window ++ behind)) r.gave (read-here HasLeft now after window behind n h g)

      pub read-more : (next : Maker) (more : List ℕ) → IsPieceTaken m kept (take n (window ++ behind)) more next → IsRead HasLeft first after next more (room - n)
      read-more next more taken = record {
        read = r.read ++ take n (window ++ behind);
        gave = gave-both;
        counted = longer;
        far = taken r.read r.far (omega (arith, longer));
      }

      pub piece-refused : (failed : R → Bool) (fault : MakeFault) → failed after ≡ false → IsPieceRefused m kept (take n (window ++ behind)) fault → IsTextRefused HasLeft failed first after fault
      piece-refused failed fault sound refused = refused-by failed first after fault sound (λ known. record {
        read = r.read ++ take n (window ++ behind);
        gave = gave-both;
        said = inr (refused r.read r.far (omega (arith, longer)) known);
      })

    -- ---- the end

    module _ (buffer : List ℕ) (n : ℕ) (g : Gave HasLeft now (take n buffer) after) (none : n ≡ 0) (end : HasLeft after []) where
      gave-no-more : Gave HasLeft first r.read after
      gave-no-more = read_nothing HasLeft first now after r.read buffer n r.gave g none

      pub text-made : (bytes : List ℕ) → IsTextEnded m kept bytes → IsTextMade HasLeft first after bytes
      text-made bytes ended = record { read = r.read; gave = gave-no-more; ended = end; bounded = few; made = ended r.read r.far few }

      pub text-refused : (failed : R → Bool) (fault : MakeFault) → failed after ≡ false → IsTextUnended m kept fault → IsTextRefused HasLeft failed first after fault
      text-refused failed fault sound unended = refused-by failed first after fault sound (λ known. record { read = r.read; gave = gave-no-more; said = inl (end, unended r.read r.far few known) })

    -- ---- how many bytes came

    pub gave-few : (buffer : List ℕ) (n : ℕ) → Gave HasLeft now (take n buffer) after → n ≤ room + 1 → GaveSome HasLeft (most_text + 1) first after
    gave-few buffer n g low = record {
      given = r.read ++ take n buffer;
      gave = gave_more HasLeft first now after r.read (take n buffer) r.gave g;
      within = omega (arith, length-append r.read (take n buffer), length-take n buffer, r.counted);
    }

    pub gave-none-more : Gave HasLeft now [] after → GaveSome HasLeft (most_text + 1) first after
    gave-none-more g = record {
      given = r.read;
      gave = subst (λ (xs : List ℕ). Gave HasLeft first xs after) (append-nil r.read) (gave_more HasLeft first now after r.read [] r.gave g);
      within = omega (arith, few);
    }

    pub gave-too-many : (buffer : List ℕ) (n : ℕ) → Gave HasLeft now (take n buffer) after → n ≤ length buffer → n ≡ room + 1 → GaveMoreThan most_text HasLeft first after
    gave-too-many buffer n g here many = record {
      given = r.read ++ take n buffer;
      gave = gave_more HasLeft first now after r.read (take n buffer) r.gave g;
      more = omega (arith, length-append r.read (take n buffer), length-take-le n buffer here, r.counted);
    }
