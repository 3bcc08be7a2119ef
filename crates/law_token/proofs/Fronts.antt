-- Each text with a byte has a front that is a piece, and `front_of` tells the longest.
use Rattle.std.proofs.Common.{◌≡◌, ◌∙◌, refl, sym, ap, subst, inl, inr, ◌⊎◌, ℕ, zero, suc, ◌≤◌, Bool, true, false, cond, List, [], ◌∷◌, ◌++◌, length, take, drop, arith, length-take}
use Rattle.std.specs.Prelude.{Option, Some, None, ◌==◌, find}
use Rattle.std.specs.List.{AllByRecursion}
use Rattle.std.proofs.lemmas.Bool.{true≢false}
use Rattle.std.proofs.lemmas.Bool.Decides.{nat_tests}
use Rattle.std.proofs.lemmas.List.{take-append-drop}
use Rattle.def_slang.specs.Name.{is_word_byte}
use Rattle.def_slang.specs.Token.{is_white}
use Rattle.def_token.specs.Lexeme.{Class, Space, Comment, OpenComment, Word, Quoted, OpenQuoted, Symbol, Stray, Front, IsPiece, Piece}
use Rattle.def_token.specs.Mark.{is_mark}
use Rattle.law_token.proofs.Pieces.{piece_some}
use Rattle.def_token.specs.Lexed.{class_of, classes, front_of, is_piece, longest, piece_or}
use Rattle.law_token.proofs.Cutting.{piece_tested, piece_told}

-- ---- searches

found_by : {X : Type 0} (test : X → Bool) (y x : X) (rest : Option X) (b : Bool) → test y ≡ b
    → (rest ≡ Some x → test x ≡ true)
    → cond b (Some y) rest ≡ Some x → test x ≡ true
found_by test y x rest true t more h = let same : y ≡ x = cc in ap test (sym same) ∙ t
found_by test y x rest false t more h = more h

found_passes : {X : Type 0} (test : X → Bool) (xs : List X) (x : X) → find test xs ≡ Some x → test x ≡ true
found_passes test [] x h = absurd (cc)
found_passes test (y ∷ xs) x h = found_by test y x (find test xs) (test y) refl (found_passes test xs x) h

none_by : {X : Type 0} (test : X → Bool) (y : X) (xs : List X) (b : Bool) → test y ≡ b
    → (find test xs ≡ None → AllByRecursion (λ x. test x ≡ false) xs)
    → cond b (Some y) (find test xs) ≡ None → AllByRecursion (λ x. test x ≡ false) (y ∷ xs)
none_by test y xs true t more h = absurd (cc)
none_by test y xs false t more h = (t, more h)

none_passes : {X : Type 0} (test : X → Bool) (xs : List X) → find test xs ≡ None → AllByRecursion (λ x. test x ≡ false) xs
none_passes test [] h = tt
none_passes test (y ∷ xs) h = none_by test y xs (test y) refl (none_passes test xs) h

class_none : (bytes : List ℕ) → class_of bytes ≡ None → (class : Class) → is_piece class bytes ≡ false
class_none bytes h Space = (none_passes (λ c. is_piece c bytes) classes h).0
class_none bytes h Comment = (none_passes (λ c. is_piece c bytes) classes h).1.0
class_none bytes h OpenComment = (none_passes (λ c. is_piece c bytes) classes h).1.1.0
class_none bytes h Word = (none_passes (λ c. is_piece c bytes) classes h).1.1.1.0
class_none bytes h Quoted = (none_passes (λ c. is_piece c bytes) classes h).1.1.1.1.0
class_none bytes h OpenQuoted = (none_passes (λ c. is_piece c bytes) classes h).1.1.1.1.1.0
class_none bytes h Symbol = (none_passes (λ c. is_piece c bytes) classes h).1.1.1.1.1.1.0
class_none bytes h Stray = (none_passes (λ c. is_piece c bytes) classes h).1.1.1.1.1.1.1.0

-- ---- the longest front

-- the piece is a front, and none of up to so many bytes is longer
record IsLongest (count : ℕ) (text : List ℕ) (piece : Piece) : Type 0 where
  size : ℕ
  within : size ≤ count
  bytes_are : piece.bytes ≡ take size text
  kind : IsPiece piece.class piece.bytes
  no_longer : (class : Class) (k : ℕ) → k ≤ count → IsPiece class (take k text) → k ≤ size

-- no front of up to so many bytes is a piece
abbrev pub HasNone : ℕ → List ℕ → Type 0
HasNone count text = (class : Class) (k : ℕ) → k ≤ count → IsPiece class (take k text) → ⊥

no_class : (bytes : List ℕ) → class_of bytes ≡ None → (class : Class) → IsPiece class bytes → ⊥
no_class bytes h class is = true≢false (sym (piece_tested class bytes is) ∙ class_none bytes h class)

up_to : (k count : ℕ) → k ≤ suc count → (k ≡ suc count) ⊎ (k ≤ count)
up_to k count h = grind arith

abbrev Tells : ℕ → List ℕ → Option Piece → Type 0
Tells count text (Some piece) = IsLongest count text piece
Tells count text None = HasNone count text

more_none : (count : ℕ) (text : List ℕ) → class_of (take (suc count) text) ≡ None → HasNone count text
    → HasNone (suc count) text
more_none count text c none class k h is =
    elim (up_to k count h) [
      | inl e ↦ no_class (take (suc count) text) c class (subst (λ n. IsPiece class (take n text)) e is)
      | inr l ↦ none class k l is
    ]

more_longest : (count : ℕ) (text : List ℕ) (piece : Piece) → class_of (take (suc count) text) ≡ None
    → IsLongest count text piece → IsLongest (suc count) text piece
more_longest count text piece c l =
    let fits = l.within in
    record {
      size = l.size;
      within = omega arith;
      bytes_are = l.bytes_are;
      kind = l.kind;
      no_longer = λ class k h is. elim (up_to k count h) [
        | inl e ↦ absurd (no_class (take (suc count) text) c class (subst (λ n. IsPiece class (take n text)) e is))
        | inr below ↦ l.no_longer class k below is
      ];
    }

more_by : (count : ℕ) (text : List ℕ) (o : Option Piece) → class_of (take (suc count) text) ≡ None
    → Tells count text o → Tells (suc count) text o
more_by count text (Some piece) c h = more_longest count text piece c h
more_by count text None c h = more_none count text c h

longest_by : (count : ℕ) (text : List ℕ) (o : Option Class) → class_of (take (suc count) text) ≡ o
    → Tells count text (longest count text)
    → Tells (suc count) text (piece_or (take (suc count) text) o (longest count text))
longest_by count text (Some class) c h =
    let is = found_passes (λ x. is_piece x (take (suc count) text)) classes class c in
    record {
      size = suc count;
      within = omega arith;
      bytes_are = refl;
      kind = piece_told class (take (suc count) text) is;
      no_longer = λ other k below is. below;
    }
longest_by count text None c h = more_by count text (longest count text) c h

none_at_zero : (text : List ℕ) → HasNone 0 text
none_at_zero text class k h is =
    let some = piece_some class (take k text) is in
    let short = length-take k text in
    omega (arith, some, short)

longest_tells : (count : ℕ) (text : List ℕ) → Tells count text (longest count text)
longest_tells zero text = none_at_zero text
longest_tells (suc count) text = longest_by count text (class_of (take (suc count) text)) refl (longest_tells count text)

front_by : (text : List ℕ) (piece : Piece) → IsLongest (length text) text piece
    → Front text piece (drop (length piece.bytes) text)
front_by text piece l =
    let fits = l.within in
    let size : length piece.bytes ≡ l.size = omega (arith, ap length l.bytes_are, length-take l.size text, fits) in
    record {
      parts = sym (take-append-drop (length piece.bytes) text)
          ∙ ap (λ t. t ++ drop (length piece.bytes) text) (ap (λ n. take n text) size ∙ sym l.bytes_are);
      kind = l.kind;
      longest = λ class k h is. (let below = l.no_longer class k h is in omega (arith, below, size));
    }

-- what is told of a text's front
abbrev pub IsFront : List ℕ → Option Piece → Type 0
IsFront text (Some piece) = Front text piece (drop (length piece.bytes) text)
IsFront text None = HasNone (length text) text

is_front_by : (text : List ℕ) (o : Option Piece) → Tells (length text) text o → IsFront text o
is_front_by text (Some piece) h = front_by text piece h
is_front_by text None h = h

pub is_front : (text : List ℕ) → IsFront text (front_of text)
is_front text = is_front_by text (front_of text) (longest_tells (length text) text)

-- ---- bytes

-- the byte alone is a piece
pub record IsByte (b : ℕ) : Type 0 where
  pub class : Class
  pub is : IsPiece class (b ∷ [])

byte_by : (b : ℕ) (white word quote mark : Bool) → is_white b ≡ white → is_word_byte b ≡ word → (b == 34) ≡ quote
    → is_mark (b ∷ []) ≡ mark → IsByte b
byte_by b true word quote mark t u v w = record { class = Space; is = record { some = omega arith; all = rw t refl } }
byte_by b false true quote mark t u v w = record { class = Word; is = record { some = omega arith; all = rw u refl } }
byte_by b false false true mark t u v w =
    let same : b ≡ 34 = grind (arith, nat_tests, v) in
    record { class = OpenQuoted; is = record { body = []; parts = ap (λ n. n ∷ []) same; inside = refl } }
byte_by b false false false true t u v w = record { class = Symbol; is = w }
byte_by b false false false false t u v w =
    record { class = Stray; is = record { byte = b; parts = refl; nothing = rw (t, u, v, w) refl } }

-- each byte alone is a piece
pub one_byte : (b : ℕ) → IsByte b
one_byte b = byte_by b (is_white b) (is_word_byte b) (b == 34) (is_mark (b ∷ [])) refl refl refl refl

-- a text with a byte has a front that is a piece
pub some_front : (b : ℕ) (text : List ℕ) → HasNone (length (b ∷ text)) (b ∷ text) → ⊥
some_front b text none = let byte = one_byte b in none byte.class 1 (omega arith) byte.is
