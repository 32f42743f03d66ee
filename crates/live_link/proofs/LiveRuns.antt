-- The runs of both ends over their scripts owe what they must, so the joint trace of two that fit is safe.
use Rattle.std.specs.Prelude.{◌≤◌, ℕ, List, [], ◌∷◌, Option, Some, None}
use Rattle.std.proofs.Common.{arith}
use Rattle.link_frames.specs.declared.frame.End.TheVariants as «end»
use Rattle.msd_fit.specs.declared.facts.Facts.{Facts}
use Rattle.trace_text.specs.Script.{Script}
use Rattle.trace_model.specs.Safety.{Safe}
use Rattle.line_input.specs.declared.reason.BadLine.{BadLine}
use Rattle.live_link.specs.Joint.{joint, joint_rounds, joint_trace, RunsFit}
use Rattle.link_parts.specs.Messages.{script_end}
use Rattle.link_parts.specs.Rounds.{Rounds, rounds_of, parts_in}
use Rattle.live_link.specs.Runs.{Run, beats_of, at_script_end}
use Rattle.live_link.specs.Scripts.{script_of, vehicle_run, vehicle_live, point_live}
use Rattle.live_link.specs.Turns.{entries_of}
use Rattle.live_link.proofs.JointSafe.{owed_safe}
use Rattle.live_link.proofs.Owed.{first_place, OwedFrom}
use Rattle.live_link.proofs.OwedRuns.{owed_less}
use Rattle.live_link.proofs.PointRuns as point
use Rattle.live_link.proofs.VehicleRuns as vehicle

no_facts : (script : Script) (refused : Option BadLine) →
    OwedFrom «end».Vehicle (at_script_end 0 (script_end ∷ []) refused).rounds first_place
    (at_script_end 0 (script_end ∷ []) refused).turns
no_facts script None = omega arith
no_facts script (Some line) = omega arith

by_facts : (known : Option Facts) (script : Script) (rounds : Rounds) →
    OwedFrom «end».Vehicle (vehicle_run known script rounds).rounds first_place (vehicle_run known script rounds).turns
by_facts None script rounds = no_facts script script.refused
by_facts (Some known) script rounds =
    vehicle.first_owed known (parts_in rounds.messages) rounds.stop script.refused (beats_of script.events)

vehicle_owed : (script octets : List ℕ) →
    OwedFrom «end».Vehicle (vehicle_live script octets).rounds first_place (vehicle_live script octets).turns
vehicle_owed script octets =
    by_facts (script_of «end».Vehicle script).facts (script_of «end».Vehicle script) (rounds_of «end».Vehicle octets)

point_owed : (script octets : List ℕ) →
    OwedFrom «end».Point (point_live script octets).rounds first_place (point_live script octets).turns
point_owed script octets =
    let s : Script = script_of «end».Point script in
    let r : Rounds = rounds_of «end».Point octets in
    point.first_owed r.messages r.stop s.refused (beats_of s.events)

pub earlier_safe : (vehicle_script from_point point_script from_vehicle : List ℕ)
    → RunsFit (vehicle_live vehicle_script from_point) (point_live point_script from_vehicle)
    → (n : ℕ)
    → n ≤ joint_rounds (vehicle_live vehicle_script from_point) (point_live point_script from_vehicle)
    → Safe (joint n (entries_of (vehicle_live vehicle_script from_point).turns) (entries_of (point_live point_script from_vehicle).turns)) n
earlier_safe vs fp ps fv fits n low =
    let v : Run = vehicle_live vs fp in
    let p : Run = point_live ps fv in
    owed_safe n v.turns p.turns
    (owed_less «end».Vehicle n v.rounds (omega (arith, low)) first_place v.turns (vehicle_owed vs fp))
    (owed_less «end».Point n p.rounds (omega (arith, low)) first_place p.turns (point_owed ps fv)) fits

pub all_safe : (vehicle_script from_point point_script from_vehicle : List ℕ)
    → RunsFit (vehicle_live vehicle_script from_point) (point_live point_script from_vehicle)
    → Safe (joint_trace (vehicle_live vehicle_script from_point) (point_live point_script from_vehicle))
    (joint_rounds (vehicle_live vehicle_script from_point) (point_live point_script from_vehicle))
all_safe vs fp ps fv fits =
    earlier_safe vs fp ps fv fits (joint_rounds (vehicle_live vs fp) (point_live ps fv)) (omega arith)
