-- What the desk means: document 01 in its order. Read from the top, with the paper beside it. "From
-- document 000 come 1.1.1, 1.1.2, 1.2, 1.3, 2.4 and 2.5.1 to 2.5.5, integers only. The code bytes,
-- flags, map and blocks below are the desk's own; where they differ from document 000, this paper
-- decides. Left out: floats, bit fields, devices, several processors, the assembler, documents 001
-- to 004." Document 02, F-6, brings floats, with 1.1.3 of document 000.

-- bytes of a value stand highest first; B, H, W, and F-6's F and D
pub mod Words
-- What the desk holds
pub mod State
-- Numbers 1 to 16, 8 to 15, and F-4: the alarms; a value, or an alarm
pub mod Alarms
-- Map, with F-4: entries, the lookup of one byte, reached frames
pub mod Map
-- Code: the table of command bytes
pub mod Code
-- Code: the nine forms
pub mod Operands
-- document 000, 1.1 and 2.5: results and flags
pub mod Integers
-- document 02, F-6: the table of floating command bytes, their operands
pub mod FloatCode
-- document 02, F-6, and document 000, 1.1.3: floating numbers and their flags
pub mod Floats
-- One step: what a command does
pub mod Commands
-- One step: interrupts, kernel entry, RESUME, stops
pub mod Steps
-- Numbers 1 to 16: refusals and the four calls
pub mod Calls
-- demand 3
pub mod Isolation
-- Tried values, marked *
pub mod TriedValues
-- document 02, F-2: what SH to the left does with V
pub mod LeftShifts
-- document 02, F-4: what pages without commands do
pub mod PagesWithoutCommands
-- document 02, F-7: what the lookup of a first byte tells of those in its page
pub mod OnePage
