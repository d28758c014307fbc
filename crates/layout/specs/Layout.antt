-- The words of the tables (01, 'The machine in lent memory'): a header, then a block of 256 words for each core.
-- Assumes nothing.
use Rattle.std.specs.Prelude.{ℕ, ◌+◌, ◌*◌}

-- ---- the header: 32 words

abbrev pub header_words : ℕ
header_words = 32

abbrev pub cores : ℕ
cores = 0

abbrev pub pages : ℕ
pages = 1

-- the refused calls that no core's block counts (02, 'Whose refusals?')
abbrev pub refusals : ℕ
refusals = 2

abbrev pub lines : ℕ
lines = 3

-- the I/O APIC's ports IOREGSEL and IOWIN
abbrev pub ioregsel : ℕ
ioregsel = 4

abbrev pub iowin : ℕ
iowin = 5

-- 24 redirect entries
abbrev pub redirect : ℕ
redirect = 6

-- the last words are zero
abbrev pub header_rest : ℕ
header_rest = 30

abbrev pub header_rest_words : ℕ
header_rest_words = 2

-- the two as the crate timer has them (02), which is no part of the machine yet: the period and the ticks left
abbrev pub period : ℕ
period = 30

abbrev pub left : ℕ
left = 31

-- ---- a core's block: 256 words

abbrev pub block_words : ℕ
block_words = 256

-- where the block of core k starts
abbrev pub block_at : ℕ → ℕ
block_at k = header_words + block_words * k

-- how many words the tables of n cores have
abbrev pub table_words : ℕ → ℕ
table_words n = header_words + block_words * n

-- 32 general and 32 special registers
abbrev pub gpr : ℕ
gpr = 0

abbrev pub spr : ℕ
spr = 32

abbrev pub pc : ℕ
pc = 64

abbrev pub hi : ℕ
hi = 65

abbrev pub lo : ℕ
lo = 66

abbrev pub running : ℕ
running = 67

-- the heads of the chains of pending stores, of walks and of free records
abbrev pub store_head : ℕ
store_head = 68

abbrev pub walk_head : ℕ
walk_head = 69

abbrev pub free_head : ℕ
free_head = 70

-- this word is zero
abbrev pub block_gap : ℕ
block_gap = 71

-- the 128 port bytes of the local APIC in 32 words, low byte first
abbrev pub ports : ℕ
ports = 72

-- eoipending: 256 bits in 8 words
abbrev pub eoipending : ℕ
eoipending = 104

abbrev pub sipirr : ℕ
sipirr = 112

abbrev pub sipivect : ℕ
sipivect = 113

abbrev pub initrr : ℕ
initrr = 114

-- the refused steps of kinds 0 to 8 whose core is this one (02, 'Whose refusals?')
abbrev pub core_refusals : ℕ
core_refusals = 115

-- the words up to the records are zero
abbrev pub block_rest : ℕ
block_rest = 116

abbrev pub block_rest_words : ℕ
block_rest_words = 12

-- 32 records of four words, numbered 0 to 31
abbrev pub records : ℕ
records = 128

abbrev pub record_words : ℕ
record_words = 4

-- where record r starts in its block: the next record's number, then three words of contents
abbrev pub record_at : ℕ → ℕ
record_at r = records + record_words * r

-- ---- memory: 1 to 4,096 pages of 4,096 bytes

abbrev pub page_bytes : ℕ
page_bytes = 4096

abbrev pub most_pages : ℕ
most_pages = 4096

abbrev pub most_cores : ℕ
most_cores = 4

-- ---- special registers (table 5) that the machine uses

abbrev pub sr : ℕ
sr = 0

abbrev pub esr : ℕ
esr = 1

abbrev pub eca : ℕ
eca = 2

abbrev pub epc : ℕ
epc = 3

abbrev pub edata : ℕ
edata = 4

abbrev pub pto : ℕ
pto = 5

abbrev pub asid : ℕ
asid = 6

abbrev pub mode : ℕ
mode = 7

-- ---- port addresses

-- the ports of a core's local APIC (definition 70) and of the I/O APIC (definition 72)
abbrev pub local_ports : ℕ
local_ports = 0xFFFF_F000

abbrev pub local_port_bytes : ℕ
local_port_bytes = 128

abbrev pub io_ports : ℕ
io_ports = 0xFFFF_E000

abbrev pub io_port_bytes : ℕ
io_port_bytes = 8

-- and of the timer (02), which is no part of the machine yet
abbrev pub timer_ports : ℕ
timer_ports = 0xFFFF_D000

abbrev pub timer_port_bytes : ℕ
timer_port_bytes = 8
