-- What the public readers of parts promise.
use Rattle.std.specs.Prelude.{◌≡◌, ℕ, ◌+◌, ◌<◌, List, [], length, drop, Option, Some, None, Result, Ok, Err}
use Rattle.def_token.specs.Lexical as lexical
use Rattle.def_token.specs.Lexical.{Fault, Token}
use Rattle.def_tree.specs.Fault.{fault_at, IsRead, HasFault}
use Rattle.def_tree.specs.Limits.{Entry}
use Rattle.sl_base.specs.declared.refusal.Refusal.{Refusal}
use Rattle.sl_base.specs.declared.refusal.Refusal.TheVariants as refusal
use Rattle.sl_cursor.specs.declared.cursor.Cursor.{Cursor}
use Rattle.sl_cursor.specs.declared.cursor.Told.{Told}
use Rattle.sl_cursor.specs.declared.source.Here.{Here}
use Rattle.sl_cursor.specs.declared.source.Unread.{Unread}
use Rattle.sl_cursor.specs.declared.source.Unread.TheVariants as unread
use Rattle.sl_token.specs.View.{Tells, token_in}

-- a refusal tells this fault, if memory did not run out
abbrev pub TellsThis : Fault → Refusal → Type 0
TellsThis fault refusal = Tells (λ told. told ≡ fault) refusal

-- the end of no tokens
abbrev pub no_token : Token
no_token =
    record {
      kind = lexical.End;
      text = [];
      start = 0;
      end = 0;
      place = record { line = 1; column = 1 };
    }

-- a refusal tells why nothing is read
abbrev pub TellsUnread : List ℕ → Unread → Refusal → Type 0
TellsUnread source (unread.Refused None) answer = TellsThis (fault_at 110 no_token) answer
TellsUnread source (unread.Refused (Some reach)) answer =
    TellsThis (fault_at reach.told.code (token_in source reach.told.token)) answer
TellsUnread source (unread.Deep told) answer =
    TellsThis (fault_at told.code (token_in source told.token)) answer
TellsUnread source unread.NoMemory answer = answer ≡ refusal.NoMemory

-- what is told of a limit on the way
abbrev pub IsRefusedAt : List ℕ → Option Told → Refusal → Type 0
IsRefusedAt source None answer = ⊥
IsRefusedAt source (Some told) answer =
    TellsThis (fault_at told.code (token_in source told.token)) answer

-- what is answered where a tree is read before this place
abbrev pub AnswersAt : {A : Type 0} → List ℕ → ℕ → A → Cursor → Result (A × ℕ) Refusal → Type 0
AnswersAt source from tree place (Ok found) =
    (found ≡ (tree, from + place.at)) × (place.limit ≡ None)
AnswersAt source from tree place (Err answer) = IsRefusedAt source place.limit answer

-- what is answered for what is read
abbrev pub Answers : {A : Type 0} → List ℕ → ℕ → Result (A × Here) Unread → Result (A × ℕ) Refusal
    → Type 0
Answers source from (Ok read) answer = AnswersAt source from read.0 read.1.place answer
Answers source from (Err unread) (Ok found) = ⊥
Answers source from (Err unread) (Err answer) = TellsUnread source unread answer

module _ {Tree : Type 0} (IsPart : List Token → Tree → List Token → Type 0)
    (entries_of : Tree → List Entry) (tokens : List Token) (from : ℕ) where
  -- the tokens from the one with the number `from` to before the one with the number `next` are the
  -- tree, within the limits
  pub record IsReadTo (tree : Tree) (next : ℕ) : Type 0 where
    pub read : IsRead IsPart entries_of (drop from tokens) tree (drop next tokens)
    pub behind : from < next
    pub inside : next < length tokens

  -- the fault is what is told of the tokens from the one with the number `from` on
  abbrev pub HasFaultFrom : Fault → Type 0
  HasFaultFrom fault = HasFault IsPart entries_of (drop from tokens) fault
