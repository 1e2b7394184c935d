-- Definition: The numbers and the names of the refusals.
use Rattle.std.specs.Prelude.{ℕ, List, ◌++◌, codes}
use Rattle.std.specs.Fmt.{decimal}
use Rattle.seq_state.specs.declared.log.Reply.{Reply}
use Rattle.seq_state.specs.declared.log.Reply.TheVariants.{Refused}
use Rattle.seq_state.specs.declared.refusal.Refusal.{Refusal}
use Rattle.seq_state.specs.declared.refusal.Refusal.TheVariants.{NotOpen, AlreadyOpen, BadName, BadSize, BadRule, NodeExists, NoNode, NoSender, NoDest, NotPermitted, AlreadyConnected, NotConnected, SourcesFull, Cycle, QueueExists, NotYours, NoQueue, QueueRunning, QueueStopped, NoFile, DivisionDiffers, BadTempo, BadTime, OutFull}

abbrev pub number_of : Refusal → ℕ
number_of NotOpen = 1
number_of AlreadyOpen = 2
number_of BadName = 3
number_of BadSize = 4
number_of BadRule = 5
number_of NodeExists = 6
number_of NoNode = 7
number_of NoSender = 8
number_of NoDest = 9
number_of NotPermitted = 10
number_of AlreadyConnected = 11
number_of NotConnected = 12
number_of SourcesFull = 13
number_of Cycle = 14
number_of QueueExists = 15
number_of NotYours = 16
number_of NoQueue = 17
number_of QueueRunning = 18
number_of QueueStopped = 19
number_of NoFile = 20
number_of DivisionDiffers = 21
number_of BadTempo = 22
number_of BadTime = 23
number_of OutFull = 24

-- the reply to a refused command
abbrev pub refused : Refusal → Reply
refused r = Refused (number_of r)

abbrev pub refusal_name : Refusal → List ℕ
refusal_name NotOpen = codes "NotOpen"
refusal_name AlreadyOpen = codes "AlreadyOpen"
refusal_name BadName = codes "BadName"
refusal_name BadSize = codes "BadSize"
refusal_name BadRule = codes "BadRule"
refusal_name NodeExists = codes "NodeExists"
refusal_name NoNode = codes "NoNode"
refusal_name NoSender = codes "NoSender"
refusal_name NoDest = codes "NoDest"
refusal_name NotPermitted = codes "NotPermitted"
refusal_name AlreadyConnected = codes "AlreadyConnected"
refusal_name NotConnected = codes "NotConnected"
refusal_name SourcesFull = codes "SourcesFull"
refusal_name Cycle = codes "Cycle"
refusal_name QueueExists = codes "QueueExists"
refusal_name NotYours = codes "NotYours"
refusal_name NoQueue = codes "NoQueue"
refusal_name QueueRunning = codes "QueueRunning"
refusal_name QueueStopped = codes "QueueStopped"
refusal_name NoFile = codes "NoFile"
refusal_name DivisionDiffers = codes "DivisionDiffers"
refusal_name BadTempo = codes "BadTempo"
refusal_name BadTime = codes "BadTime"
refusal_name OutFull = codes "OutFull"

-- `14 Cycle`
abbrev pub refusal_text : Refusal → List ℕ
refusal_text r = decimal (number_of r) ++ codes " " ++ refusal_name r
