-- Where a value may go to another thread, threads may share its lock, and a pass of the lock may go to
-- another thread. `search` finds neither by itself, since the fields name types that belong to the value's.
use Rattle.std.proofs.Common.{List, [], ◌∷◌}
use denote.RattleType.{RattleType}
use denote.Param.Send.{IsSend, IsSync, AllSend, sendable, view_send, view_sync}
use denote.Param.SendFields.{FieldsHave, declared_send, declared_sync, as_row_send, as_row_sync}
use denote.Struct.Field.{Field, row_field}
use denote.Struct.Tuple.{TupleAt, type_at, parts}
use Rattle.std.proofs.Crossing as heap
use Rattle.std.specs.contracts.alloc.Global as Global
use Rattle.std.specs.contracts.impls.GlobalAllocator.TheImpl as allocator
use Rattle.std.specs.contracts.option.Option as Option
use Rattle.std.specs.contracts.snapshot.Snapshot as Snapshot
use Rattle.atomic_table.specs.contracts.owned.Table as Table
use Rattle.atomic_table.proofs.owned.Table.TheSendSync as table
use Rattle.atomic_table.proofs.shared.Seat.TheSendSync as seat
use Rattle.sl_turn.specs.declared.stands_for.StandsFor.{Ghosts}
use Rattle.sl_turn.specs.contracts.law.Law as Law
use Rattle.sl_turn.specs.contracts.law.LawTableRuleOptionViewSubjectEntrySnapshot.TheImpl as rule
use Rattle.sl_turn.specs.contracts.pass.Pass as Pass
use Rattle.sl_turn.specs.contracts.turn.Turn as Turn
use Rattle.sl_turn.specs.contracts.view.View as View

module _ (T S E : RattleType) (g : Ghosts T.Denot S.Denot E.Denot) where
  slot_send : IsSend T → IsSend (Option.the_row T)
  slot_send s = search sendable depth 12

  pub pass_send : IsSend T → IsSend (Pass.the_row T S E g)
  pass_send s = view_send (Pass.TheInside.the_row T S E g) _ _ _ _ (declared_send (Pass.TheInside.the_type T S E g)
      (seat.the_send (Option.the_row T) (View.the_row S E) (slot_send s), (search (sendable, heap.crosses) depth 20, (search sendable, tt))))

  abbrev table_field : Field
  table_field = Table.the_field (Option.the_row T) (View.the_row S E) (Snapshot.the_row T) (Law.the_row T) Global.the_row (rule.ghosts T S E g rule.no_dict rule.no_dict) allocator.ghosts

  table_sync : IsSend T → IsSync table_field.row
  table_sync s = table.the_field_sync (Option.the_row T) (View.the_row S E) (Snapshot.the_row T) (Law.the_row T) Global.the_row (rule.ghosts T S E g rule.no_dict rule.no_dict) allocator.ghosts (slot_send s) heap.send heap.sync heap.frees

  pub turn_sync : IsSend T → IsSync (Turn.the_row T S E g)
  turn_sync s = view_sync (Turn.TheInside.the_row T S E g) _ _ _ _ (declared_sync (Turn.TheInside.the_type T S E g)
      (as_row_sync table_field (table_sync s), (search (sendable, heap.crosses) depth 20, (search (sendable, heap.crosses) depth 20, (search (sendable, heap.crosses) depth 20, tt)))))

captured : (Ts : List RattleType) → AllSend Ts → FieldsHave IsSend (parts Ts)
captured [] s = tt
captured (T ∷ Ts) s = (as_row_send (row_field T) s.0, captured Ts s.1)

-- what a closure owns may go to another thread where all that it captures may
pub captures_send : (Ts : List RattleType) → AllSend Ts → IsSend (TupleAt [] Ts)
captures_send Ts s = declared_send (type_at [] Ts) (captured Ts s)
